-- The checks of node weights and of the weighted steps of order 4: rows 11 and 12 of document 01's table, and row 10 of the
-- weights, each over all inputs, and the order of all rows that a weighted step can answer. Assumes nothing.
use Rattle.std.specs.Prelude.{Bool, not, ◌&&◌, List, ℕ, max, ◌*◌ as ◌*ℕ◌, eqb, length, get_or, Float}
use Rattle.std.specs.Float.{nan, binary64}
use Rattle.arithmetic.specs.Arithmetic.{ieee}
use Rattle.error.specs.Checks.{refuse_if, next}
use Rattle.error.specs.declared.Refusal.TheVariants.{Length, Weight, NoNodes}
use Rattle.error.specs.Answer.{Checked}
use Rattle.graph_checks.specs.First.{refuse_first}
use Rattle.magnus_graph_faults.specs.StepChecks.{not_positive, bound_fault, room_fault, Sample, samples_fault, step_length_fault}
use Rattle.magnus_graph_faults.specs.StepChecks.{lengths_fault}
open ieee binary64 use {◌*◌}

infixl 70 ◌*◌
-- ---- the rows of the table

-- row 12, of a weighted form: there are no nodes
unfoldable pub no_nodes_fault : ℕ → Checked
no_nodes_fault n = refuse_if (eqb n 0) (NoNodes 0)

-- the bound of a weighted step in row 8: (bound·root bound)·root bound, left to right. The root bound bounds the roots of the
-- weights.
unfoldable pub weighted_bound : Float → Float → Float
weighted_bound bound root_bound = bound * root_bound * root_bound

-- row 10, of the weights: either length is not n. The larger of the two lengths is named, even where that is n.
unfoldable pub weights_length_fault : ℕ → ℕ → ℕ → Checked
weights_length_fault n first second = refuse_if (not (eqb first n && eqb second n)) (Length (max first second))

-- the weight at place k is not finite or ≤ 0
abbrev pub not_positive_at : List Float → ℕ → Bool
not_positive_at weights k = not_positive (get_or weights k nan)

-- row 11, of one sample's weights: the first that is not finite or ≤ 0
unfoldable pub sample_weights_fault : List Float → Checked
sample_weights_fault weights = refuse_first (not_positive_at weights) (length weights) (λ k. Weight (get_or weights k nan))

-- ---- their order

-- 9 for the spectral bound, 9 for the root bound, 12
unfoldable pub weighted_bounds_fault : Float → Float → ℕ → Checked
weighted_bounds_fault bound root_bound n = next (bound_fault bound) (next (bound_fault root_bound) (no_nodes_fault n))

-- 11, the first sample's weights wholly before the second's
unfoldable pub weight_fault : List Float → List Float → Checked
weight_fault weights1 weights2 = next (sample_weights_fault weights1) (sample_weights_fault weights2)

-- A weighted step: the samples, 9 and 12, 7 and 8, then 10, last of it the weights and the work slice, whose need is 9n, then 11.
unfoldable pub weighted_step_fault : Sample → Sample → Float → Float → Float → Bool → ℕ → ℕ → List Float → List Float → ℕ
    → Checked
weighted_step_fault first second τ bound root_bound checked signal output weights1 weights2 work =
    next (samples_fault first second)
    (next (weighted_bounds_fault bound root_bound first.nodes)
    (next (step_length_fault τ (weighted_bound bound root_bound) checked)
    (next (lengths_fault first.nodes second.nodes signal output)
    (next (weights_length_fault first.nodes (length weights1) (length weights2))
    (next (room_fault work (9 *ℕ first.nodes))
    (weight_fault weights1 weights2))))))
