-- The invariant of `varcoef_magnus_graph_pairs::kernel::WeightedPairs::add_rooted_term`: the places of the sum before place i and the scaled pairs
-- before pair i are written, and nothing else.
use Rattle.varcoef_magnus_graph_pairs.proofs.Walks.{Second}
use Rattle.varcoef_magnus_graph_pairs.proofs.kernel.WeightedPairs.add_rooted_term.Given as goal

abbrev pub invariant-loop-i : goal.invariant-loop-i
invariant-loop-i l =
    let s = l.self in
    let p = s.pattern in
    Second p.n p.row_ptr.now p.col_idx.now s.vals.values.now s.roots.values.now l.fn.products l.fn.next l.scale l.comm_scale l.coefficient
    l.fn.sum l.fn.scaled l.i l.sum l.scaled
