-- `magnus_graph_helpers::kernel::omega_sum` meets its contract: a turn reads the next elements of three vectors and of
-- the target, none of which is written yet. Assumes nothing.
use Rattle.std.proofs.Common.{arith}
use Rattle.std.specs.Float.{binary64, nan}
use Rattle.std.specs.Float.Ieee.{add, sub, mul}
use Rattle.arithmetic.specs.Arithmetic.{ieee}
use Rattle.scratch.proofs.Writing.{written_none, written_next, written_all, read-after, read_here}
use Rattle.magnus_graph_helpers.proofs.Terms.{omega4-sum-walk}
use Rattle.magnus_graph_helpers.proofs.kernel.omega_sum.Goals as goal

pub loop-i-init : goal.loop-i-init
loop-i-init c = written_none _ _ _ _

pub loop-i-preserved : goal.loop-i-preserved
loop-i-preserved c =
    let args = c.args in
    let written = c.loop-i.invariant in
    let turn = c.loop-i-test.true in
    let a = read-after written args.a c.requires.target_le_a.0 turn nan in
    let b = read-after written args.b c.requires.target_le_a.1 turn nan in
    let product = read-after written args.c c.requires.target_le_a.2 turn nan in
    let d = read_here written turn nan in
    written_next written turn _ _ (omega arith)
    (λ k.
    add binary64 (mul binary64 args.scale (add binary64 (a k) (b k)))
    (mul binary64 args.comm_scale (sub binary64 (product k) (d k))))

pub returns : goal.returns
returns c = written_all c.loop-i.invariant c.loop-i-test.false (omega4-sum-walk (ieee binary64) _ _ _ _ _ _ _)
