-- A term of Ω of order 4 of two samples of one pattern meets the contract of the trait: the first walk forms both products with v, the second Ωv of
-- them over v, and then the coefficient times Ωv is added to the sum. Assumes nothing.
use Rattle.std.proofs.Common.{◌*◌, refl, arith}
use Rattle.std.specs.Float.{binary64}
use Rattle.rounding.specs.StepLength.{minus_half}
use Rattle.arithmetic.specs.Arithmetic.{ieee}
use Rattle.graph_rows.specs.RowProduct.{row_sum64, row_product64}
use Rattle.magnus_graph_pairs.proofs.Term.{term-of-pairs}
use Rattle.magnus_graph_pairs.proofs.kernel.SharedOmega4Omega.add_term.Goals as goal

pub returns : goal.returns
returns g c =
    let o = c.args.self.now in
    let p = o.pattern in
    let f = o.factors in
    let n = p.n in
    let V = g.V.Paired in
    let v = c.split_at_mut-v.result.0.now in
    let row = row_sum64 p.row_ptr.now p.col_idx.now in
    let L = row_product64 n p.row_ptr.now p.col_idx.now in
    term-of-pairs (ieee binary64) n (5 * n) minus_half f.s f.sign f.tau (L (V.firsts_of o.vals)) (L (V.seconds_of o.vals))
    (row (V.seconds_of o.vals) v) (row (V.firsts_of o.vals) v) c.args.coefficient _ v _ _
    (c.split_at_mut-sum.ensures.front_len, c.split_at_mut-v.ensures.front_len, c.split_at_mut-products.ensures.front_len) (omega arith) refl refl
    c.split_at_mut-sum.ensures.value c.split_at_mut-v.ensures.value c.split_at_mut-products.ensures.value
    c.products.ensures (rw (← c.scale-scale.ensures, ← c.comm_scale-comm_scale.ensures) c.omega.ensures) c.add_scaled_to.ensures
