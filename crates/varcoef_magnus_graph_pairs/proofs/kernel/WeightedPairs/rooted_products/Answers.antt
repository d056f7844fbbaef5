-- `varcoef_magnus_graph_pairs::kernel::WeightedPairs::rooted_products` meets its contract: a turn writes the next pair of each of two lists, from the
-- sums of its row and the roots of its place. Assumes nothing.
use Rattle.std.proofs.Common.{◌/◌, length, arith}
use Rattle.std.specs.Float.{nan}
use Rattle.varcoef_magnus_graph_pairs.proofs.Chunks.{first-of-chunk, second-of-chunk}
use Rattle.varcoef_magnus_graph_pairs.proofs.Walks.{first-none, first_next, first-products, first-exchanged}
use Rattle.varcoef_magnus_graph_pairs.proofs.kernel.WeightedPairs.rooted_products.Goals as goal

pub loop-i-init : goal.loop-i-init
loop-i-init c = first-none _ _ _ _ _ _ _ _

pub loop-i-preserved : goal.loop-i-preserved
loop-i-preserved c =
    let s = c.args.self in
    let p = s.pattern in
    let sums = c.row_sums-sums.ensures in
    let r = s.roots.values.now in
    let chunks = c.as_chunks.ensures.front in
    let half = length r / 2 in
    let i = c.loop-i.i in
    first_next p.n p.row_ptr.now p.col_idx.now s.vals.values.now s.roots.values.now c.args.scaled.now c.loop-i.invariant (omega arith) s.vals_len
    (first-of-chunk half r i nan chunks (omega arith)) (second-of-chunk half r i nan chunks (omega arith)) sums.first sums.second

pub returns-clause-products : goal.returns-clause-products
returns-clause-products c = first-products _ _ _ _ _ _ c.loop-i.invariant c.requires.products_len (omega arith)

pub returns-clause-next : goal.returns-clause-next
returns-clause-next c = first-exchanged _ _ _ _ _ _ c.loop-i.invariant c.requires.products_len c.requires.next_len (omega arith)
