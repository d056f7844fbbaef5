-- `magnus6_graph_operators::kernel::form_at_v` meets its contract: the sums are formed of the vectors that C2 v left. The code's quotient
-- 1 / 12 and its -20 are the formula's. Assumes nothing.
use Rattle.std.specs.Float.{binary64}
use lib.Ieee.{of_bits, neg, div}
use Rattle.arithmetic.specs.Arithmetic.{ieee}
use Rattle.magnus.specs.Omega6.{constants6}
use Rattle.magnus6_graph_parts.proofs.Omega6Parts.{at-v-formed}
use Rattle.magnus6_graph_parts.proofs.Samples.{sizes}
use Rattle.magnus6_graph_operators.proofs.kernel.form_at_v.Goals as goal

pub returns : goal.returns
unfolding of_bits neg div
returns c =
    let s = c.args.samples.now in
    at-v-formed (ieee binary64) _ constants6 s.tau _ _ _ (sizes s) _ c.args.work.now _ _ _ _ _ c.requires.room
    c.form_c2.ensures c.copy_within.ensures c.add_scaled.ensures c.scaled_less.ensures c.add.ensures c.add-2.ensures
