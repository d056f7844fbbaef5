-- `magnus6_graph_c2::kernel::form_c2` meets its contract: 2 B3 x + C1 x and the products that C2 x needs are written one after the
-- other, behind what C1 x left. Assumes nothing.
use Rattle.std.proofs.Common.{◌*◌}
use Rattle.std.specs.Float.{binary64}
use Rattle.arithmetic.specs.Arithmetic.{ieee}
use Rattle.magnus.specs.Omega6.{constants6}
use Rattle.magnus6_graph_parts.proofs.Omega6Parts.{c2-formed}
use Rattle.magnus6_graph_parts.proofs.Samples.{sizes, second-image}
use Rattle.magnus6_graph_c2.proofs.kernel.form_c2.Goals as goal

pub returns : goal.returns
returns c =
    let s = c.args.samples.now in
    let n = s.outer.first.pattern.n in
    c2-formed (ieee binary64) _ constants6 s.tau _ _ _ (sizes s) _ c.args.work.now _ _ _ _ _ _ c.requires.room
    c.form_c1.ensures c.w_sum.ensures
    (second-image s (14 * n) _ c.w_sum.new.work c.product_in.ensures)
    (second-image s (9 * n) _ c.product_in.new.work c.product_in-2.ensures)
    (second-image s (12 * n) _ c.product_in-2.new.work c.product_in-3.ensures)
    c.two_products_in.ensures c.c2_sum.ensures
