-- `sampled_steps` meets its contract: each turn takes the next step of the segment, whose samples lie where the segment's value says. Assumes nothing.
use Rattle.std.proofs.Common.{refl, ap}
use Rattle.error.proofs.Checks.{handed_on}
use Rattle.magnus_graph_traj_steps.proofs.Courses.{segment_before}
use Rattle.magnus_graph_traj_steps.proofs.Walk.{steps-begin, steps_on, steps-stop}
use Rattle.varcoef_magnus_graph_adjoint_run.proofs.Walk.{sampled-one}
use Rattle.varcoef_magnus_graph_adjoint_run.proofs.kernel.sampled_steps.Goals as goal

pub loop-init : goal.loop-init
loop-init c = steps-begin _ _ (ap (segment_before c.args.first) c.requires.first_step)

pub returns-in_err-sampled_step : goal.returns-in_err-sampled_step
returns-in_err-sampled_step c =
    let a = c.args in
    let l = a.lists in
    let p = l.pattern in
    let v = l.values in
    let weights = l.weights in
    rw (handed_on c.from_residual.ensures)
    (steps-stop c.loop.invariant c.loop-test.true
    (sampled-one p.n p.row_ptr.now p.col_idx.now v.start.now v.end.now weights.start.now weights.end.now a.first a.steps _ _
    c.loop.invariant.here c.adjoint_step_start-t_start.ensures c.first_sample.ensures c.second_sample.ensures
    c.fraction.ensures c.fraction-in-loop.ensures c.in_err-sampled_step.ensures) refl)

pub loop-preserved : goal.loop-preserved
loop-preserved c =
    let a = c.args in
    let l = a.lists in
    let p = l.pattern in
    let v = l.values in
    let weights = l.weights in
    steps_on c.loop.invariant c.loop-test.true
    (sampled-one p.n p.row_ptr.now p.col_idx.now v.start.now v.end.now weights.start.now weights.end.now a.first a.steps _ _
    c.loop.invariant.here c.adjoint_step_start-t_start.ensures c.first_sample.ensures c.second_sample.ensures
    c.fraction.ensures c.fraction-in-loop.ensures c.in_ok-sampled_step.ensures)
    c.next-segment.ensures refl
