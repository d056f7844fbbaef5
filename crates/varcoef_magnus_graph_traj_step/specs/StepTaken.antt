-- What a step of a weighted adjoint run does with the held signal (01, parts 7, 8 and 10), in the work slice in which it is held. Assumes
-- nothing.
use Rattle.std.specs.Prelude.{◌≡◌, List, map, ℕ, ◌+◌, ◌*◌, ◌≤◌, length, drop, Float}
use Rattle.std.specs.Float.{binary64}
use Rattle.arithmetic.specs.Arithmetic.{ieee}
use Rattle.scratch.specs.Parts.{part}
use Rattle.ieee_square_root.specs.SquareRoot.{square_root}
use Rattle.error.specs.Checks.{next}
use Rattle.error.specs.Answer.{Checked}
use Rattle.error.specs.Answer.{Accepted}
use Rattle.graph_rows.specs.RowProduct.{row_product64}
use Rattle.magnus.specs.Operators.{weighted}
use Rattle.magnus_graph_step.specs.Omega4.{exp_omega4}
use Rattle.magnus_graph_outcome.specs.StepOutcome.{adjoint}
use Rattle.varcoef_magnus_graph_faults.specs.WeightedStepChecks.{weight_fault}
use Rattle.varcoef_magnus_graph_outcome.specs.WeightedOmega4.{sqrt3_over12}
use Rattle.graph_traj_samples.specs.Sampled.{sampled_fault}

-- the work slice w, now w', is as long as it was, and the same from index `need` on
pub record Kept (need : ℕ) (w w' : List Float) : Type 0 where
  pub length-kept : length w' ≡ length w
  pub rest : (j : ℕ) → need ≤ j → drop j w' ≡ drop j w

module _ (n : ℕ) (row_starts cols : List ℕ) where
  -- an adjoint step with the values of two samples and the weights at their times
  abbrev pub step_fault : List Float → List Float → List Float → List Float → Checked
  step_fault x1 x2 a1 a2 = next (next (sampled_fault x1) (sampled_fault x2)) (weight_fault a1 a2)

  -- the weighted product with values x and weights a
  abbrev pub weighted_with : List Float → List Float → List Float → List Float
  weighted_with x a = weighted (ieee binary64) n (map (square_root binary64) a) (row_product64 n row_starts cols x)

  abbrev pub step_image : Float → List Float → List Float → List Float → List Float → List Float → List Float
  step_image τ x1 x2 a1 a2 = exp_omega4 binary64 n sqrt3_over12 adjoint τ (weighted_with x1 a1) (weighted_with x2 a2)

  -- it was taken in the work slice w, now w'
  pub record StepTaken (τ : Float) (x1 x2 a1 a2 : List Float) (answer : Checked) (w w' : List Float) : Type 0 where
    pub answer-is : answer ≡ step_fault x1 x2 a1 a2
    pub held : answer ≡ Accepted → part 0 n w' ≡ step_image τ x1 x2 a1 a2 (part 0 n w)
    pub kept : Kept (11 * n + 2 * length cols) w w'
