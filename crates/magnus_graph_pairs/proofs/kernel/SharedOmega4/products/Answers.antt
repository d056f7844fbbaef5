-- `magnus_graph_pairs::kernel::SharedOmega4::products` meets its contract: a turn writes the next pair, the sums of its row. Assumes nothing.
use Rattle.std.proofs.Common.{arith}
use Rattle.scratch.proofs.Writing.{written_none}
use Rattle.graph_pairs.proofs.Pairs.{pair-written, pairs-written}
use Rattle.magnus_graph_pairs.proofs.kernel.SharedOmega4.products.Goals as goal

pub loop-i-init : goal.loop-i-init
loop-i-init g c = written_none _ _ _ _

pub loop-i-preserved : goal.loop-i-preserved
loop-i-preserved g c =
    let sums = c.row_sums-sums.ensures in
    pair-written _ _ c.loop-i.invariant c.loop-i-test.true _ _ _ _ (omega arith) (omega arith) sums.second sums.first

pub returns : goal.returns
returns g c = pairs-written _ _ c.requires.products_len c.loop-i.invariant c.loop-i-test.false
