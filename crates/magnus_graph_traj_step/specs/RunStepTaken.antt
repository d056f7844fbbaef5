-- What one step of an unweighted run along a trajectory does with the held signal (01, part 10; "Added by design", row 20), in the
-- work slice in which it is held. Assumes nothing.
use Rattle.std.specs.Prelude.{◌≡◌, List, ℕ, ◌+◌, ◌*◌, ◌≤◌, length, drop, Float}
use Rattle.std.specs.Float.{binary64}
use Rattle.scratch.specs.Parts.{part}
use Rattle.error.specs.Checks.{next}
use Rattle.error.specs.Answer.{Checked}
use Rattle.error.specs.Answer.{Accepted}
use Rattle.graph_rows.specs.RowProduct.{row_product64}
use Rattle.magnus_graph_outcome.specs.Omega4.{sqrt3_over12}
use Rattle.magnus_graph_step.specs.Omega4.{exp_omega4}
use Rattle.graph_traj_laws.specs.Laws.{values_at}
use Rattle.graph_traj_samples.specs.Sampled.{sampled_fault}

-- a step in segment k of pools of lists of m values, m the number of columns, by the segment's law
module _ (n : ℕ) (row_starts cols : List ℕ) (law : ℕ) (starts ends : List Float) (k : ℕ) where
  -- the values of a sample that is so far on its way through the segment
  abbrev pub step_values : Float → List Float
  step_values f = let m = length cols in values_at law m f (part (k * m) m starts) (part (k * m) m ends)

  -- the product with it
  abbrev pub step_product : Float → List Float → List Float
  step_product f = row_product64 n row_starts cols (step_values f)

  -- A step of length τ with the samples at the fractions f1 and f2 and the commutator's sign was taken in the work slice w, now w': its
  -- answer, and, where no sampled value is refused, the held signal, which is the vector at 0. From index 7n + 2m on w is as it was.
  pub record RunStepTaken (τ f1 f2 sign : Float) (r : Checked) (w w' : List Float) : Type 0 where
    pub answer : r ≡ next (sampled_fault (step_values f1)) (sampled_fault (step_values f2))
    pub taken : r ≡ Accepted
        → part 0 n w' ≡ exp_omega4 binary64 n sqrt3_over12 sign τ (step_product f1) (step_product f2) (part 0 n w)
    pub length-kept : length w' ≡ length w
    pub rest : (j : ℕ) → 7 * n + 2 * length cols ≤ j → drop j w' ≡ drop j w
