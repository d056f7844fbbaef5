-- The steps of the segments before i were taken, and none refused. Assumes nothing.
use Rattle.graph_traj_parts.specs.Trajectory.{trajectory_of}
use Rattle.graph_traj_faults.specs.RunChecks.{run_need}
use Rattle.magnus_graph_outcome.specs.StepOutcome.{forward}
use Rattle.magnus_graph_traj_steps.specs.RunSteps.{all_steps, forward_course, run_step_fault, run_step_image}
use Rattle.magnus_graph_traj_steps.proofs.Walk.{Walked}
use Rattle.magnus_graph_traj_run.proofs.kernel.run_all_segments.Given as goal

abbrev pub invariant-loop-i : goal.invariant-loop-i
invariant-loop-i l =
    let t = trajectory_of l.trajectory.parts in
    let course = forward_course t.breakpoints t.segments l.steps in
    Walked (run_step_fault t course) (run_step_image t course forward) t.nodes (run_need t) (all_steps l.steps) t.segments l.i
    l.initial.work l.work
