-- `magnus6_graph_c1::kernel::form_c1` meets its contract: the products of B2 x and of y = B1 x take the places of those of x, which are
-- no longer needed. The code's literal for √15/3 is the formula's. Assumes nothing.
use Rattle.std.proofs.Common.{◌*◌}
use Rattle.std.specs.Float.{binary64}
use lib.Ieee.{of_bits}
use Rattle.arithmetic.specs.Arithmetic.{ieee}
use Rattle.magnus.specs.Omega6.{constants6}
use Rattle.magnus6_graph_parts.proofs.Omega6Parts.{c1-formed}
use Rattle.magnus6_graph_parts.proofs.Samples.{sizes, second-image}
use Rattle.magnus6_graph_c1.proofs.kernel.form_c1.Goals as goal

pub returns : goal.returns
unfolding of_bits
returns c =
    let s = c.args.samples.now in
    c1-formed (ieee binary64) _ constants6 s.tau _ _ _ (sizes s) _ c.args.work.now _ _ _ _ c.requires.room
    c.form_b.ensures (second-image s (10 * s.outer.first.pattern.n) _ c.form_b.new.work c.product_in.ensures) c.two_products_in.ensures
    c.scaled_difference.ensures c.scaled_less.ensures
