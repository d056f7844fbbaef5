-- `magnus_graph_taylor::kernel::taylor_sum` meets its contract: the vector at n starts as a copy of the signal, and each turn adds the next term, whose
-- coefficient is one division. Assumes nothing.
use Rattle.std.proofs.Common.{arith}
use Rattle.std.specs.Float.{binary64}
use Rattle.arithmetic.specs.Arithmetic.{ieee}
use Rattle.magnus_graph_helpers.proofs.Terms.{turns-none, turns_next, turns-all}
use Rattle.magnus_graph_taylor.proofs.kernel.taylor_sum.Goals as goal

pub loop-k-init : goal.loop-k-init
loop-k-init g c =
    let n = c.node_count-n.ensures in
    turns-none (ieee binary64) _ _ _ c.args.terms _ c.args.work.now _ (omega arith) (rw n at c.copy_within.ensures)

pub loop-k-preserved : goal.loop-k-preserved
loop-k-preserved g c =
    turns_next (ieee binary64) _ _ _ c.loop-k.invariant c.loop-k-test.true _ _ c.reciprocal_factorial.ensures c.add_term.ensures

pub returns : goal.returns
returns g c =
    let n = c.node_count-n.ensures in
    turns-all (ieee binary64) _ _ _ c.args.work.now _ (omega arith) c.requires.two_vectors (rw n at c.copy_within.ensures) c.loop-k.invariant c.loop-k-test.false
