-- The check of a Laplacian's values: row 5 of document 01's table, over all inputs. What is read past a list's end is NaN. Assumes nothing.
use Rattle.std.specs.Prelude.{Bool, not, List, ℕ, length, get_or, Float}
use Rattle.std.specs.Float.{nan}
use Rattle.std.specs.Float.Ieee.Scale.{finite}
use Rattle.error.specs.declared.Refusal.TheVariants.{Value}
use Rattle.error.specs.Answer.{Checked}
use Rattle.graph_shape.specs.First.{refuse_first}

-- entry k's value is not finite
abbrev pub not_finite_at : List Float → ℕ → Bool
not_finite_at vals k = not (finite (get_or vals k nan))

-- row 5: the first listed value that is not finite
unfoldable pub value_fault : List Float → Checked
value_fault vals = refuse_first (not_finite_at vals) (length vals) (λ k. Value (get_or vals k nan))
