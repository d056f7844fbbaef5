-- The steps so far were taken, and none refused; the segment's value counts them. Assumes nothing.
use Rattle.graph_traj_parts.specs.Trajectory.{trajectory_of}
use Rattle.magnus_graph_outcome.specs.StepOutcome.{adjoint}
use Rattle.magnus_graph_traj_steps.specs.RunSteps.{adjoint_course}
use Rattle.magnus_graph_traj_run.proofs.StepAt.{StepsWalkedAt}
use Rattle.magnus_graph_traj_adjoint_run.proofs.kernel.run_adjoint_steps.Given as goal

abbrev pub invariant-loop : goal.invariant-loop
invariant-loop l =
    StepsWalkedAt (trajectory_of l.trajectory.parts) (adjoint_course l.tau l.steps) adjoint 0 l.tau l.steps l.counter l.initial.work l.work
    l.segment
