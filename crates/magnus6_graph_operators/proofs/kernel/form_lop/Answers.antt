-- `magnus6_graph_operators::kernel::form_lop` meets its contract: the sum is formed of the vectors that C1 x left. The code's -20 is the
-- formula's. Assumes nothing.
use Rattle.std.specs.Float.{binary64}
use lib.Ieee.{of_bits, neg}
use Rattle.arithmetic.specs.Arithmetic.{ieee}
use Rattle.magnus.specs.Omega6.{constants6}
use Rattle.magnus6_graph_parts.proofs.Omega6Parts.{lop-formed}
use Rattle.magnus6_graph_parts.proofs.Samples.{sizes}
use Rattle.magnus6_graph_operators.proofs.kernel.form_lop.Goals as goal

pub returns : goal.returns
unfolding of_bits neg
returns c =
    let s = c.args.samples.now in
    lop-formed (ieee binary64) _ constants6 s.tau _ _ _ (sizes s) _ c.args.work.now _ _ c.requires.room
    c.form_c1.ensures c.scaled_less.ensures c.add.ensures
