-- The steps of the segment so far were taken, and none refused; the segment's value counts them. Assumes nothing.
use Rattle.graph_traj_parts.specs.Trajectory.{trajectory_of}
use Rattle.graph_traj_faults.specs.RunChecks.{tau_of}
use Rattle.magnus_graph_outcome.specs.StepOutcome.{forward}
use Rattle.magnus_graph_traj_steps.specs.RunSteps.{forward_course}
use Rattle.magnus_graph_traj_run.proofs.StepAt.{StepsWalkedAt}
use Rattle.magnus_graph_traj_run.proofs.kernel.run_segment_steps.Given as goal

abbrev pub invariant-loop : goal.invariant-loop
invariant-loop l =
    let t = trajectory_of l.trajectory.parts in
    StepsWalkedAt t (forward_course t.breakpoints t.segments l.steps) forward l.i (tau_of t.breakpoints l.steps l.i) l.steps
    l.counter l.initial.work l.work l.segment
