-- The invariant of `varcoef_magnus_graph_pairs::kernel::WeightedPairs::rooted_products`: the pairs before pair i of both lists are written, and nothing
-- else.
use Rattle.varcoef_magnus_graph_pairs.proofs.Walks.{First}
use Rattle.varcoef_magnus_graph_pairs.proofs.kernel.WeightedPairs.rooted_products.Given as goal

abbrev pub invariant-loop-i : goal.invariant-loop-i
invariant-loop-i l =
    let s = l.self in
    let p = s.pattern in
    First p.n p.row_ptr.now p.col_idx.now s.vals.values.now s.roots.values.now l.fn.scaled l.fn.products l.fn.next l.i l.products l.next
