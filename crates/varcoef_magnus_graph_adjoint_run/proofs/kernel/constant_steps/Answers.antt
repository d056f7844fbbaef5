-- `constant_steps` meets its contract: the weights are checked and their roots taken once, and each turn adds the terms of one step, which
-- leave the roots as they are. Assumes nothing.
use Rattle.std.proofs.Common.{refl, ◌∙◌}
use lib.Ieee.{of_bits, neg}
use Rattle.error.proofs.Checks.{handed_on}
use Rattle.varcoef_magnus_graph_adjoint_run.proofs.Walk.{constant-begins, constant-starts, constant-from, constant-on}
use Rattle.varcoef_magnus_graph_adjoint_run.proofs.Walk.{constant-ends, constant-refused}
use Rattle.varcoef_magnus_graph_adjoint_run.proofs.kernel.constant_steps.Goals as goal

pub returns-in_err-check_sample_weights : goal.returns-in_err-check_sample_weights
returns-in_err-check_sample_weights c =
    let a = c.args in
    let p = a.sample.pattern in
    let refused = handed_on c.from_residual.ensures in
    constant-refused p.n p.row_ptr.now p.col_idx.now a.tau a.sample.vals.now a.a.now _
    (refused ∙ c.in_err-check_sample_weights.ensures) refused c.requires.a_len.1

pub loop-init : goal.loop-init
loop-init c =
    let a = c.args in
    let p = a.sample.pattern in
    constant-starts p.n p.row_ptr.now p.col_idx.now a.tau a.sample.vals.now a.a.now
    (constant-begins p.n p.row_ptr.now p.col_idx.now a.tau a.sample.vals.now a.a.now a.steps a.work.now _ c.requires.a_len.0
    c.requires.room c.load_roots.ensures)

pub loop-preserved : goal.loop-preserved
unfolding of_bits neg
loop-preserved c =
    let a = c.args in
    let p = a.sample.pattern in
    constant-on p.n p.row_ptr.now p.col_idx.now a.tau a.sample.vals.now a.a.now c.loop.invariant c.loop-test.true
    c.constant_taylor4.ensures

pub returns : goal.returns
returns c =
    let a = c.args in
    let p = a.sample.pattern in
    let ready = constant-begins p.n p.row_ptr.now p.col_idx.now a.tau a.sample.vals.now a.a.now a.steps a.work.now _ c.requires.a_len.0
    c.requires.room c.load_roots.ensures in
    constant-ends p.n p.row_ptr.now p.col_idx.now a.tau a.sample.vals.now a.a.now c.in_ok-check_sample_weights.ensures refl
    (constant-from p.n p.row_ptr.now p.col_idx.now a.tau a.sample.vals.now a.a.now ready c.loop.invariant) c.loop-test.false
