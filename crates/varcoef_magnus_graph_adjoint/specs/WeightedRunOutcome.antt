-- What the weighted adjoint run does in each step, and the run with its arguments (01, parts 7, 8 and 10). What a run answers and leaves, and
-- what demand 3 says of it, is said for all runs in the crate magnus_graph_traj_outcome, of these fields. Assumes nothing.
use Rattle.std.specs.Prelude.{Bool, List, ℕ, length, Float}
use Rattle.magnus_graph_outcome.specs.StepOutcome.{adjoint}
use Rattle.graph_traj_parts.specs.Trajectory.{Trajectory}
use Rattle.graph_traj_adjoint_faults.specs.AdjointRunChecks.{weighted_run_need, weighted_adjoint_run_fault}
use Rattle.magnus_graph_traj_steps.specs.RunSteps.{Course, adjoint_course}
use Rattle.magnus_graph_traj_outcome.specs.RunOutcome.{Stepping, Run}
use Rattle.varcoef_magnus_graph_traj_steps.specs.WeightedRunSteps.{weighted_run_step_fault, weighted_run_step_image}
use Rattle.varcoef_magnus_graph_adjoint.specs.WeightedPlainSteps.{formed_weighted_run_step, weighted_step_agrees, weighted_plain_step}

-- the steps of a weighted run, with the commutator's sign
abbrev pub weighted_stepping : Trajectory → List Float → List Float → Course → Float → Stepping
weighted_stepping t start_weights end_weights course sign = record {
  fault = weighted_run_step_fault t start_weights end_weights course;
  image = weighted_run_step_image t start_weights end_weights course sign;
  formed = formed_weighted_run_step t start_weights end_weights course sign;
  agrees = weighted_step_agrees t start_weights end_weights course;
  plain = weighted_plain_step t start_weights end_weights course;
}

-- the weighted adjoint run of N steps of length τ
abbrev pub weighted_adjoint_run : Trajectory → Float → ℕ → Float → Float → Bool → List Float → List Float → List Float → List Float
    → List Float → Run
weighted_adjoint_run t τ N bound root_bound checked start_weights end_weights signal output work =
    let course = adjoint_course τ N in
    record {
      checks =
          weighted_adjoint_run_fault t τ N bound root_bound checked (length signal) (length output) (length start_weights)
          (length end_weights) (length work);
      steps = course.steps;
      stepping = weighted_stepping t start_weights end_weights course adjoint;
      need = weighted_run_need t;
      signal = signal;
      output = output;
      work = work;
    }
