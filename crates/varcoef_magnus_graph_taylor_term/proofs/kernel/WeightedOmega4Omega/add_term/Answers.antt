-- A term of the weighted Ω of order 4 meets the contract of the trait: the four weighted products are placed as the formula asks, d over v, which is
-- no longer needed; then Ωv is formed of them over d, and the coefficient times Ωv is added to the sum. Assumes nothing.
use Rattle.std.proofs.Common.{◌≡◌, ℕ, ◌*◌, List, Float, arith}
use mathlib.Core.Path.{subst}
use Rattle.std.specs.Float.{binary64}
use Rattle.rounding.specs.StepLength.{minus_half}
use Rattle.arithmetic.specs.Arithmetic.{ieee}
use Rattle.graph_rows.specs.Product.{product_of}
use Rattle.magnus.specs.Operators.{weighted}
use Rattle.magnus_graph_helpers.proofs.Terms.{room-left, term4-added}
use Rattle.varcoef_magnus_graph_products.specs.WeightedProduct.{with_product}
use Rattle.varcoef_magnus_graph_products.proofs.WeightedProduct.{weighted-placed}
use Rattle.varcoef_magnus_graph_taylor_term.proofs.kernel.WeightedOmega4Omega.add_term.Goals as goal

-- a weighted product, of as many places as is said otherwise
product-of : {m n : ℕ} (L : List Float → List Float) (r : List Float) (source target : ℕ) (w : List Float) {w' : List Float}
    → m ≡ n
    → w' ≡ with_product (ieee binary64) m L r source target w
    → w' ≡ with_product (ieee binary64) n L r source target w
product-of L r source target w {w'} e = subst (λ k. w' ≡ with_product (ieee binary64) k L r source target w) e

pub returns : goal.returns
returns c =
    let args = c.args in
    let o = args.self.now in
    let f = o.factors in
    let A = ieee binary64 in
    let n = o.first.sample.pattern.n in
    let L1 = product_of o.first.sample in
    let L2 = product_of o.second.sample in
    let r1 = o.first.roots.now in
    let r2 = o.second.roots.now in
    let room = c.requires in
    let a = weighted-placed A n L1 r1 n (2 * n) args.work.now _ room (omega arith) (omega arith) c.product_in.ensures in
    let room1 = room-left A n a (6 * n) room in
    let b = weighted-placed A n L2 r2 n (3 * n) _ _ room1 (omega arith) (omega arith) (product-of L2 r2 n (3 * n) _ o.same_nodes c.product_in-2.ensures) in
    let room2 = room-left A n b (6 * n) room1 in
    let d = weighted-placed A n L1 r1 (3 * n) n _ _ room2 (omega arith) (omega arith) c.product_in-3.ensures in
    let room3 = room-left A n d (6 * n) room2 in
    let e = weighted-placed A n L2 r2 (2 * n) (4 * n) _ _ room3 (omega arith) (omega arith) (product-of L2 r2 (2 * n) (4 * n) _ o.same_nodes c.product_in-4.ensures) in
    term4-added A n (6 * n) minus_half f.s f.sign f.tau args.coefficient (weighted A n r1 L1) (weighted A n r2 L2)
    args.work.now _ _ _ _ _ _ (omega (arith, room)) (omega arith) a b d e
    (rw (← c.scale-scale.ensures, ← c.comm_scale-comm_scale.ensures) c.omega_sum.ensures) c.add_scaled.ensures
