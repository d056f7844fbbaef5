-- A term of Ω of order 6 meets the contract of the trait: the two operators of the last commutator are applied to each other's image of v, Ωv is
-- formed over v, and the coefficient times Ωv is added to the sum. The code's quotient 1 / 240 is the formula's. Assumes nothing.
use Rattle.std.specs.Float.{binary64}
use lib.Ieee.{of_bits, div}
use Rattle.arithmetic.specs.Arithmetic.{ieee}
use Rattle.magnus.specs.Omega6.{constants6}
use Rattle.magnus6_graph_parts.proofs.Omega6Parts.{term6-added}
use Rattle.magnus6_graph_parts.proofs.Samples.{sizes}
use Rattle.magnus6_graph_term.proofs.kernel.Omega6Omega.add_term.Goals as goal

pub returns : goal.returns
unfolding of_bits div
returns c =
    let s = c.args.self.now.samples in
    term6-added (ieee binary64) _ constants6 s.tau _ _ _ (sizes s) c.args.coefficient c.args.work.now _ _ _ _ _ _ c.requires
    c.form_at_v.ensures c.form_lop.ensures c.form_rop.ensures c.scaled_difference.ensures c.add.ensures c.add_scaled.ensures
