-- The invariant of `magnus_graph_pairs::kernel::SharedOmega4::omega`: the places of Ωv before place i are written, and nothing else.
use Rattle.magnus_graph_pairs.proofs.Forming.{Forming}
use Rattle.magnus_graph_pairs.proofs.kernel.SharedOmega4.omega.Given as goal

abbrev pub invariant-loop-i : goal.invariant-loop-i
invariant-loop-i g l =
    let o = l.self in
    let p = o.pattern in
    let V = g.V.Paired in
    Forming p.n p.row_ptr.now p.col_idx.now (V.firsts_of o.vals) (V.seconds_of o.vals) l.fn.products l.scale l.comm_scale l.fn.image l.i l.image
