-- So many of the steps were taken, and the roots of the weights lie in the work slice. Assumes nothing.
use Rattle.varcoef_magnus_graph_adjoint_run.proofs.Walk.{ConstantWalked}
use Rattle.varcoef_magnus_graph_adjoint_run.proofs.kernel.constant_steps.Given as goal

abbrev pub invariant-loop : goal.invariant-loop
invariant-loop l =
    let p = l.sample.pattern in
    ConstantWalked p.n p.row_ptr.now p.col_idx.now l.tau l.sample.vals.now l.a l.steps l.counter l.initial.work l.work
