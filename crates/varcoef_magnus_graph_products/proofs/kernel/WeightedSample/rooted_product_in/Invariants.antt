-- The invariant of `varcoef_magnus_graph_products::kernel::WeightedSample::rooted_product_in`: the places before place i are written, and nothing
-- else.
use Rattle.std.specs.Float.{binary64}
use Rattle.arithmetic.specs.Arithmetic.{ieee}
use Rattle.scratch.specs.Parts.{part}
use Rattle.scratch.proofs.Writing.{Written}
use Rattle.graph_rows.specs.Product.{row_sum_of}
use Rattle.varcoef_magnus_graph_products.proofs.WeightedProduct.{times_root}
use Rattle.varcoef_magnus_graph_products.proofs.kernel.WeightedSample.rooted_product_in.Given as goal

abbrev pub invariant-loop-i : goal.invariant-loop-i
invariant-loop-i l =
    let s = l.self.sample in
    Written l.target (times_root (ieee binary64) l.self.roots.now (row_sum_of s (part l.source s.pattern.n l.fn.work))) s.pattern.n l.fn.work l.i l.work
