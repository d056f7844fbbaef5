-- Demand 3 of one step of an unweighted run: where its samples agree, it is its plain sum. Assumes nothing.
use mathlib.Core.Path.{refl}
use lib.Dec.{T}
use lib.Ieee.{Float, binary64, fits}
use Rattle.magnus.specs.Coefficients.{reciprocal_factorial}
use Rattle.magnus_plain_sum.specs.Agree.{OfFormat}
use Rattle.magnus_plain_sum.proofs.Formed.{and_is}
use Rattle.magnus_plain_sum.proofs.PlainSum.{samples-plain-sum}
use Rattle.magnus_graph_outcome.specs.Omega4.{sqrt3_over12}
use Rattle.graph_traj_segment.specs.Times.{c1, c2}
use Rattle.graph_traj_parts.specs.Trajectory.{Trajectory}
use Rattle.magnus_graph_traj_steps.specs.RunSteps.{RunStep, Course}
use Rattle.magnus_graph_traj_outcome.specs.RunOutcome.{run_stepping}
use Rattle.magnus_graph_traj_outcome.proofs.SampledFormat.{sample-of-format}
use Rattle.magnus_graph_traj_outcome.proofs.RunOutcome.{StepsPlain}

-- what the run is lent is of the format, and so is each step's τ
pub steps-plain : (t : Trajectory) (course : Course) (sign : Float)
    → OfFormat binary64 t.starts
    → OfFormat binary64 t.ends
    → ((s : RunStep) → T (fits binary64 (course.tau s)))
    → StepsPlain (run_stepping t course sign)
steps-plain t course sign of-starts of-ends of-tau = record {
  same = refl;
  plain = λ s v v' agrees same formed.
      let premises = (simp and_is at agrees) in
      let format = sample-of-format t course of-starts of-ends s in
      samples-plain-sum binary64 t.nodes sqrt3_over12 sign (course.tau s) (of-tau s) premises.1
      (record { starts = refl; cols = refl; vals = premises.0 }) (format c1) (format c2) (reciprocal_factorial binary64) 4 same formed;
}
