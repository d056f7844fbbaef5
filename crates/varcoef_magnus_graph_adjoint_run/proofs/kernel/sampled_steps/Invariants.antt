-- The steps so far were taken, and none refused; the segment's value counts them. Assumes nothing.
use Rattle.std.proofs.Common.{◌+◌, ◌*◌, length}
use Rattle.magnus_graph_traj_steps.proofs.Walk.{StepsWalked}
use Rattle.varcoef_magnus_graph_traj_steps.specs.SampledSteps.{sampled_step_fault, sampled_step_image}
use Rattle.varcoef_magnus_graph_adjoint_run.proofs.kernel.sampled_steps.Given as goal

abbrev pub invariant-loop : goal.invariant-loop
invariant-loop l =
    let first = l.initial.segment in
    let lists = l.lists in
    let p = lists.pattern in
    let v = lists.values in
    let a = lists.weights in
    StepsWalked
    (sampled_step_fault p.n p.row_ptr.now p.col_idx.now v.start.now v.end.now a.start.now a.end.now first.start first.end first.tau l.steps)
    (sampled_step_image p.n p.row_ptr.now p.col_idx.now v.start.now v.end.now a.start.now a.end.now first.start first.end first.tau l.steps)
    p.n (11 * p.n + 2 * length p.col_idx.now) first 0 l.steps l.counter l.initial.work l.work l.segment
