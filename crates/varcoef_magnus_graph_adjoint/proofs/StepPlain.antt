-- Demand 3 of one step of a weighted run: where its samples and its weights agree, it is its plain sum. Assumes nothing.
use mathlib.Core.Path.{refl}
use mathlib.Core.List.{List}
use lib.Dec.{T}
use lib.Ieee.{Float, binary64, fits}
use Rattle.magnus.specs.Coefficients.{reciprocal_factorial}
use Rattle.magnus_plain_sum.specs.Agree.{OfFormat}
use Rattle.magnus_plain_sum.proofs.Agree.{agree_same}
use Rattle.magnus_plain_sum.proofs.Formed.{and_is}
use Rattle.magnus_plain_sum.proofs.PlainSum.{weighted-samples-plain-sum}
use Rattle.varcoef_magnus_graph_outcome.specs.WeightedOmega4.{sqrt3_over12}
use Rattle.varcoef_magnus_graph_outcome.proofs.RootsAgree.{roots-same-list}
use Rattle.graph_traj_segment.specs.Times.{c1, c2}
use Rattle.graph_traj_parts.specs.Trajectory.{Trajectory}
use Rattle.magnus_graph_traj_steps.specs.RunSteps.{RunStep, Course}
use Rattle.varcoef_magnus_graph_traj_steps.specs.WeightedRunSteps.{weights_at, roots}
use Rattle.magnus_graph_traj_outcome.proofs.SampledFormat.{sample-of-format, values-of-format}
use Rattle.magnus_graph_traj_outcome.proofs.RunOutcome.{StepsPlain}
use Rattle.varcoef_magnus_graph_adjoint.specs.WeightedRunOutcome.{weighted_stepping}

module _ (t : Trajectory) (start_weights end_weights : List Float) (course : Course) (sign : Float)
    (of-starts : OfFormat binary64 t.starts) (of-ends : OfFormat binary64 t.ends)
    (of-start-weights : OfFormat binary64 start_weights) (of-end-weights : OfFormat binary64 end_weights)
    (of-tau : (s : RunStep) → T (fits binary64 (course.tau s))) where
  weights-of-format : (s : RunStep) (c : Float) → OfFormat binary64 (weights_at t start_weights end_weights course s c)
  unfolding weights_at
  weights-of-format s c = values-of-format _ _ _ _ _ of-start-weights of-end-weights

  pub steps-plain : StepsPlain (weighted_stepping t start_weights end_weights course sign)
  steps-plain = record {
    same = refl;
    plain = λ s v v' agrees same formed.
        let both = (simp and_is at agrees) in
        let format = sample-of-format t course of-starts of-ends s in
        let weights = agree_same binary64 _ _ (weights-of-format s c1) (weights-of-format s c2) both.1 in
        weighted-samples-plain-sum binary64 t.nodes sqrt3_over12 sign (course.tau s) (of-tau s) both.0.1
        (record { starts = refl; cols = refl; vals = both.0.0 }) (format c1) (format c2) (reciprocal_factorial binary64) 4 same
        (roots t start_weights end_weights course s c1) (roots t start_weights end_weights course s c2) (roots-same-list binary64 weights) formed;
  }
