-- A term of Ω of order 4 with one list for both samples meets the contract of the trait: its two products are placed as the formula asks, the second
-- over v. Assumes nothing.
use Rattle.std.proofs.Common.{ℕ, ◌*◌, List, Float, arith, ◌∙◌}
use Rattle.std.specs.Float.{binary64}
use Rattle.rounding.specs.StepLength.{minus_half}
use Rattle.arithmetic.specs.Arithmetic.{ieee}
use Rattle.arithmetic.proofs.Tabulate.{length-tabulate}
use Rattle.scratch.specs.Parts.{part, put}
use Rattle.graph_rows.specs.Product.{product_of}
use Rattle.magnus_graph_helpers.specs.Terms.{omega4_sum}
use Rattle.magnus_graph_helpers.proofs.Terms.{product-placed, room-left, term4-constant-added}
use Rattle.magnus_graph_traj_terms.proofs.kernel.ConstantOmega4Omega.add_term.Goals as goal

pub returns : goal.returns
returns c =
    let o = c.args.self.now in
    let f = o.factors in
    let A = ieee binary64 in
    let n = o.sample.pattern.n in
    let L = product_of o.sample in
    let room = c.requires in
    let placed = product-placed A n (3 * n) in
    let a = placed n (2 * n) L c.args.work.now _ (λ x. length-tabulate _ n) room (omega arith) c.product_in.ensures in
    let d = placed (2 * n) n L _ _ (λ x. length-tabulate _ n) (room-left A n a (3 * n) room) (omega arith) c.product_in-2.ensures in
    term4-constant-added A n (3 * n) minus_half f.s f.sign f.tau c.args.coefficient L c.args.work.now _ _ _ _ room (omega arith) a d
    (rw (← c.scale-scale.ensures, ← c.comm_scale-comm_scale.ensures) c.omega_sum.ensures) c.add_scaled.ensures
