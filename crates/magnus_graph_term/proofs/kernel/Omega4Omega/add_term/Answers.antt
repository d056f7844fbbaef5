-- A term of Ω of order 4 meets the contract of the trait: the four products are placed as the formula asks, d over v, which is no longer needed; then
-- Ωv is formed of them over d, and the coefficient times Ωv is added to the sum. Assumes nothing.
use Rattle.std.proofs.Common.{◌≡◌, ◌*◌, arith, ◌∙◌}
use Rattle.std.specs.Float.{binary64}
use Rattle.rounding.specs.StepLength.{minus_half}
use Rattle.arithmetic.specs.Arithmetic.{ieee}
use Rattle.arithmetic.proofs.Tabulate.{length-tabulate}
use Rattle.graph_rows.specs.Product.{product_of}
use Rattle.graph_scratch.proofs.WorkSlice.{image-of}
use Rattle.magnus_graph_helpers.specs.Factors.{scale_of, comm_scale_of}
use Rattle.magnus_graph_helpers.proofs.Terms.{product-placed, room-left, term4-added}
use Rattle.magnus_graph_term.proofs.kernel.Omega4Omega.add_term.Goals as goal

pub returns : goal.returns
returns c =
    let args = c.args in
    let f = args.self.now.factors in
    let A = ieee binary64 in
    let n = args.self.now.first.pattern.n in
    let same = args.self.now.same_nodes in
    let L1 = product_of args.self.now.first in
    let L2 = product_of args.self.now.second in
    let room = c.requires in
    let placed = product-placed A n (5 * n) in
    let a = placed n (2 * n) L1 args.work.now _ (λ x. length-tabulate _ n) room (omega arith) c.product_in.ensures in
    let room1 = room-left A n a (5 * n) room in
    let b = placed n (3 * n) L2 _ _ (λ x. length-tabulate _ _ ∙ same) room1 (omega arith) (image-of n (3 * n) c.product_in.new.work L2 same c.product_in-2.ensures) in
    let room2 = room-left A n b (5 * n) room1 in
    let d = placed (3 * n) n L1 _ _ (λ x. length-tabulate _ n) room2 (omega arith) c.product_in-3.ensures in
    let room3 = room-left A n d (5 * n) room2 in
    let e = placed (2 * n) (4 * n) L2 _ _ (λ x. length-tabulate _ _ ∙ same) room3 (omega arith) (image-of (2 * n) (4 * n) c.product_in-3.new.work L2 same c.product_in-4.ensures) in
    let scale : c.scale-scale.result ≡ scale_of f = c.scale-scale.ensures in
    let comm_scale : c.comm_scale-comm_scale.result ≡ comm_scale_of f = c.comm_scale-comm_scale.ensures in
    term4-added A n (5 * n) minus_half f.s f.sign f.tau args.coefficient L1 L2
    args.work.now _ _ _ _ _ _ room (omega arith) a b d e
    (rw (← scale, ← comm_scale) c.omega_sum.ensures) c.add_scaled.ensures
