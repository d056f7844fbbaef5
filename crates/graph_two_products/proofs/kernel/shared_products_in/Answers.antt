-- `graph_two_products::kernel::shared_products_in` meets its contract: a turn writes the next place of both vectors, and the source, which is apart
-- from both, is as it was. Assumes nothing.
use Rattle.graph_two_products.proofs.Turns.{products-none, products-next, products-all}
use Rattle.graph_two_products.proofs.kernel.shared_products_in.Goals as goal

pub loop-i-init : goal.loop-i-init
loop-i-init c = products-none _ _ _ _ _ _ _ _ _

pub loop-i-preserved : goal.loop-i-preserved
loop-i-preserved c =
    let sums = c.row_sums-sums.ensures in
    let r = c.requires in
    products-next _ _ _ _ _ _ _ _ c.args.work.now c.loop-i.invariant r.target_order r.apart_first r.apart_second c.loop-i-test.true sums.first sums.second

pub returns : goal.returns
returns c = products-all _ _ _ _ _ _ _ _ _ c.loop-i.invariant c.loop-i-test.false
