-- `run_segment_steps` meets its contract: each turn takes the next step of the segment. Assumes nothing.
use Rattle.std.proofs.Common.{refl}
use Rattle.error.proofs.Checks.{handed_on}
use Rattle.graph_traj_parts.specs.Trajectory.{trajectory_of}
use Rattle.magnus_graph_traj_steps.proofs.Walk.{steps-begin, steps_on, steps-stop}
use Rattle.magnus_graph_traj_run.proofs.StepAt.{forward-step}
use Rattle.magnus_graph_traj_run.proofs.kernel.run_segment_steps.Goals as goal

pub loop-init : goal.loop-init
loop-init c = steps-begin _ _ c.new-segment.ensures

pub returns-in_err-step_at : goal.returns-in_err-step_at
returns-in_err-step_at c =
    let t = trajectory_of c.args.trajectory.parts in
    rw (handed_on c.from_residual.ensures)
    (steps-stop c.loop.invariant c.loop-test.true
    (forward-step t c.args.steps c.args.i _ c.loop.invariant.here c.step_start.ensures c.in_err-step_at.ensures) refl)

pub loop-preserved : goal.loop-preserved
loop-preserved c =
    let t = trajectory_of c.args.trajectory.parts in
    steps_on c.loop.invariant c.loop-test.true
    (forward-step t c.args.steps c.args.i _ c.loop.invariant.here c.step_start.ensures c.in_ok-step_at.ensures)
    c.next-segment.ensures refl
