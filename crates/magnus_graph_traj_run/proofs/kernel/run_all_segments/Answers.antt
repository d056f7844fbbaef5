-- `run_all_segments` meets its contract: each turn takes the steps of the next segment. Assumes nothing.
use Rattle.std.proofs.Common.{refl}
use Rattle.error.proofs.Checks.{handed_on}
use Rattle.magnus_graph_traj_steps.specs.RunSteps.{segment_steps, all_steps}
use Rattle.magnus_graph_traj_steps.proofs.Courses.{no-segments, all-grow}
use Rattle.magnus_graph_traj_steps.proofs.Walk.{walk_begins, walk-on, walk-stops}
use Rattle.magnus_graph_traj_run.proofs.kernel.run_all_segments.Goals as goal

pub loop-i-init : goal.loop-i-init
loop-i-init c = walk_begins (all_steps c.args.steps) _ _ (no-segments c.args.steps)

pub returns-in_err-run_segment_steps : goal.returns-in_err-run_segment_steps
returns-in_err-run_segment_steps c =
    let steps = c.args.steps in
    rw (handed_on c.from_residual.ensures)
    (walk-stops (all_steps steps) (λ i. segment_steps i steps) (all-grow steps) c.loop-i.invariant c.loop-i-test.true
    c.in_err-run_segment_steps.ensures refl)

pub loop-i-preserved : goal.loop-i-preserved
loop-i-preserved c =
    let steps = c.args.steps in
    walk-on (all_steps steps) (λ i. segment_steps i steps) (all-grow steps) c.loop-i.invariant c.loop-i-test.true
    c.in_ok-run_segment_steps.ensures refl
