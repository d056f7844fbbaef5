-- A term of the weighted Ω of order 4 of one sample meets the contract of the trait: two weighted products, the second over v, which is no longer
-- needed, and Ωv of them over it; then the coefficient times Ωv is added to the sum. Assumes nothing.
use Rattle.std.proofs.Common.{◌*◌, arith}
use Rattle.std.specs.Float.{binary64}
use Rattle.rounding.specs.StepLength.{minus_half}
use Rattle.arithmetic.specs.Arithmetic.{ieee}
use Rattle.graph_rows.specs.Product.{product_of}
use Rattle.magnus.specs.Operators.{weighted}
use Rattle.magnus_graph_helpers.proofs.Terms.{room-left, term4-constant-added}
use Rattle.varcoef_magnus_graph_products.proofs.WeightedProduct.{weighted-placed}
use Rattle.varcoef_magnus_graph_traj_constant.proofs.kernel.ConstantWeightedOmega4Omega.add_term.Goals as goal

pub returns : goal.returns
returns c =
    let args = c.args in
    let o = args.self.now in
    let f = o.factors in
    let A = ieee binary64 in
    let n = o.both.sample.pattern.n in
    let L = product_of o.both.sample in
    let r = o.both.roots.now in
    let room = c.requires in
    let a = weighted-placed A n L r n (2 * n) args.work.now _ room (omega arith) (omega arith) c.product_in.ensures in
    let d = weighted-placed A n L r (2 * n) n _ _ (room-left A n a (6 * n) room) (omega arith) (omega arith) c.product_in-2.ensures in
    term4-constant-added A n (6 * n) minus_half f.s f.sign f.tau args.coefficient (weighted A n r L) args.work.now _ _ _ _
    (omega (arith, room)) (omega arith) a d
    (rw (← c.scale-scale.ensures, ← c.comm_scale-comm_scale.ensures) c.omega_sum.ensures) c.add_scaled.ensures
