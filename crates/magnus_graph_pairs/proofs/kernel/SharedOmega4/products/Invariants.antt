-- The invariant of `magnus_graph_pairs::kernel::SharedOmega4::products`: the pairs before pair i are written, and nothing else.
use Rattle.std.specs.Prelude.{◌*◌}
use Rattle.scratch.proofs.Writing.{Written}
use Rattle.graph_rows.specs.RowProduct.{row_sum64}
use Rattle.graph_pairs.specs.Pairs.{alternate}
use Rattle.magnus_graph_pairs.proofs.kernel.SharedOmega4.products.Given as goal

abbrev pub invariant-loop-i : goal.invariant-loop-i
invariant-loop-i g l =
    let o = l.self in
    let V = g.V.Paired in
    let row = row_sum64 o.pattern.row_ptr.now o.pattern.col_idx.now in
    Written 0 (alternate (row (V.seconds_of o.vals) l.fn.v) (row (V.firsts_of o.vals) l.fn.v)) (2 * o.pattern.n) l.fn.products (2 * l.i) l.products
