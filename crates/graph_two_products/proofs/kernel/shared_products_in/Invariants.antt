-- The invariant of `graph_two_products::kernel::shared_products_in`: the places before place i of both vectors are written, and nothing else.
use Rattle.graph_two_products.proofs.Turns.{TwoProducts}
use Rattle.graph_two_products.proofs.kernel.shared_products_in.Given as goal

abbrev pub invariant-loop-i : goal.invariant-loop-i
invariant-loop-i l =
    let p = l.pattern in
    TwoProducts p.n p.row_ptr.now p.col_idx.now l.vals.first.now l.vals.second.now l.source l.target_first l.target_second l.fn.work l.i l.work
