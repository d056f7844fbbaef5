-- `rooted_product_in` of roots in the work slice meets its contract: the product is written, and then multiplied by the roots, which it has left as they were.
use Rattle.std.proofs.Common.{rules}
use lib.Ieee.{binary64, mul}
use Rattle.arithmetic.specs.Arithmetic.{ieee}
use Rattle.arithmetic.proofs.Tabulate.{length-tabulate}
use Rattle.varcoef_magnus_graph_products.proofs.WeightedProduct.{rooted-written}
use Rattle.varcoef_magnus_graph_products.proofs.kernel.rooted_product_in.Goals as goal

pub returns : goal.returns
returns c =
    rooted-written (ieee binary64) c.args.sample.pattern.n c.args.root c.args.target _ c.args.work.now c.product_in.new.work c.combine_within.new.work
    (length-tabulate _ c.args.sample.pattern.n) c.requires.target_in_bounds c.requires.apart.0 c.product_in.ensures
    (c.combine_within.ensures (mul binary64) (λ a b r called. search rules))
