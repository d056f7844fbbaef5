-- `magnus6_graph_parts::kernel::Samples6::form_b` meets its contract: the products of x and then the sums of them are written one after the other,
-- and nothing is read after it was overwritten. The code's literal for √15/3 is the formula's. Assumes nothing.
use Rattle.std.specs.Float.{binary64}
use lib.Ieee.{of_bits}
use Rattle.arithmetic.specs.Arithmetic.{ieee}
use Rattle.magnus.specs.Omega6.{constants6}
use Rattle.magnus6_graph_parts.proofs.Omega6Parts.{b-formed}
use Rattle.magnus6_graph_parts.proofs.Samples.{sizes, second-image}
use Rattle.magnus6_graph_parts.proofs.kernel.Samples6.form_b.Goals as goal

pub returns : goal.returns
unfolding of_bits
returns c =
    let s = c.args.self.now in
    b-formed (ieee binary64) _ constants6 s.tau _ _ _ (sizes s) c.args.x c.args.work.now _ _ _ _ _ c.requires.room c.requires.x_in_bounds
    c.two_products_in.ensures (second-image s c.args.x _ c.two_products_in.new.work c.product_in.ensures) c.scale_within.ensures c.scaled_difference.ensures c.b3_sum.ensures
