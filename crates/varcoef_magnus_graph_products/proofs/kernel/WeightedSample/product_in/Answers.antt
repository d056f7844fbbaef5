-- `varcoef_magnus_graph_products::kernel::WeightedSample::product_in` meets its contract: the signal is scaled by the roots to 5n, and the product
-- with it is scaled by them again. Assumes nothing.
use Rattle.std.specs.Float.{binary64}
use Rattle.arithmetic.specs.Arithmetic.{ieee}
use Rattle.graph_rows.specs.Product.{product_of}
use Rattle.varcoef_magnus_graph_products.proofs.WeightedProduct.{weighted-written}
use Rattle.varcoef_magnus_graph_products.proofs.kernel.WeightedSample.product_in.Goals as goal

pub returns : goal.returns
returns c =
    let s = c.args.self.sample in
    weighted-written (ieee binary64) s.pattern.n (product_of s) c.args.self.roots.now c.args.source c.args.target c.args.work.now _ _
    c.requires.room c.scale_in.ensures c.rooted_product_in.ensures
