-- `varcoef_magnus_graph_products::kernel::WeightedSample::rooted_product_in` meets its contract: a turn writes the root times the row's sum to the
-- target's next place; the source, which is apart from the target, is as it was. Assumes nothing.
use Rattle.std.proofs.Common.{refl, ap, arith}
use Rattle.std.specs.Float.{binary64}
use Rattle.std.specs.Float.Ieee.{mul}
use Rattle.arithmetic.specs.Arithmetic.{ieee}
use Rattle.scratch.specs.Parts.{part}
use Rattle.scratch.proofs.Writing.{written_none, written_next, written_all, part-kept}
use Rattle.graph_rows.specs.Product.{row_sum_of}
use Rattle.graph_scratch.proofs.WorkSlice.{lent-part}
use Rattle.varcoef_magnus_graph_products.proofs.WeightedProduct.{rooted-walk}
use Rattle.varcoef_magnus_graph_products.proofs.kernel.WeightedSample.rooted_product_in.Goals as goal

pub loop-i-init : goal.loop-i-init
loop-i-init c = written_none _ _ _ _

pub loop-i-preserved : goal.loop-i-preserved
loop-i-preserved c =
    let source = part-kept c.loop-i.invariant c.args.source c.requires.apart in
    let sum = rw (lent-part, source) at c.row_sum-acc.ensures in
    written_next c.loop-i.invariant (omega arith) _ _ refl (ap (mul binary64 _) sum)

pub returns : goal.returns
returns c =
    let s = c.args.self.sample in
    let row = row_sum_of s (part c.args.source s.pattern.n c.args.work.now) in
    written_all c.loop-i.invariant (omega arith) (rooted-walk (ieee binary64) s.pattern.n c.args.self.roots.now row)
