-- The checks of a trajectory's lists: rows 14, 19 and 5 of document 01's table, over all inputs, and their order. What is read past a
-- list's end is 0 or NaN; no check that comes after an accepted one reads there. Assumes nothing.
use Rattle.std.specs.Prelude.{Bool, List, ℕ, ltb, length, get_or, Float}
use Rattle.error.specs.Checks.{next}
use Rattle.error.specs.declared.Refusal.TheVariants.{Law}
use Rattle.error.specs.Answer.{Checked}
use Rattle.graph_checks.specs.First.{refuse_first}
use Rattle.graph_checks.specs.PatternChecks.{value_fault}
-- row 14, as the crates above name it
unfoldable pub use Rattle.graph_traj_counts.specs.CountChecks.{counts_fault}

-- law k is above 2
abbrev pub unknown_law_at : List ℕ → ℕ → Bool
unknown_law_at laws k = ltb 2 (get_or laws k 0)

-- row 19: the first law above 2
unfoldable pub laws_fault : List ℕ → Checked
laws_fault laws = refuse_first (unknown_law_at laws) (length laws) (λ k. Law (get_or laws k 0))

-- 19, then 5 for all start lists, then for all end lists
unfoldable pub lists_fault : List ℕ → List Float → List Float → Checked
lists_fault laws starts ends = next (laws_fault laws) (next (value_fault starts) (value_fault ends))
