-- The checks of the lookup: rows 13 to 15 and 18 of document 01's table, each over all inputs, and their order. What is read past a
-- list's end is NaN; no check that comes after an accepted one reads there. Assumes nothing.
use Rattle.std.specs.Prelude.{Bool, not, ◌&&◌, ◌||◌, List, ℕ, ◌+◌, ◌-◌, ltb, length, Float}
use Rattle.std.specs.Float.Ieee.{lt, le}
use Rattle.std.specs.Float.Ieee.Scale.{finite}
use Rattle.error.specs.Checks.{refuse_if, next}
use Rattle.error.specs.declared.Refusal.TheVariants.{Breakpoint, LookupTime}
use Rattle.error.specs.Answer.{Checked}
use Rattle.graph_checks.specs.First.{refuse_first}
use Rattle.graph_traj_breakpoints.specs.Breakpoints.{breakpoint}
-- ---- the rows of the table

-- rows 13 and 14
unfoldable pub use Rattle.graph_traj_counts.specs.CountChecks.{segment_count_fault, pool_count_fault}

-- breakpoint i is not finite, or is not above its predecessor, if it has one
unfoldable pub not_rising_at : List Float → ℕ → Bool
not_rising_at breakpoints i =
    not (finite (breakpoint breakpoints i))
    || ltb 0 i && not (lt (breakpoint breakpoints (i - 1)) (breakpoint breakpoints i))

-- row 15: the first breakpoint that is not finite, or not above its predecessor
unfoldable pub breakpoints_fault : List Float → Checked
breakpoints_fault breakpoints =
    refuse_first (not_rising_at breakpoints) (length breakpoints) (λ i. Breakpoint (breakpoint breakpoints i))

-- row 18: t is a NaN, or below the first breakpoint, or above the last
unfoldable pub lookup_time_fault : Float → Float → Float → Checked
lookup_time_fault first last t = refuse_if (not (le first t && le t last)) (LookupTime t)

-- ---- their order

-- the lookup: 13, 14 for the breakpoints, 15, 18
unfoldable pub lookup_fault : ℕ → List Float → Float → Checked
lookup_fault segments breakpoints t =
    next (segment_count_fault segments)
    (next (pool_count_fault (length breakpoints) (segments + 1))
    (next (breakpoints_fault breakpoints)
    (lookup_time_fault (breakpoint breakpoints 0) (breakpoint breakpoints segments) t)))
