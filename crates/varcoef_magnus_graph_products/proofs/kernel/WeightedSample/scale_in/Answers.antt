-- `varcoef_magnus_graph_products::kernel::WeightedSample::scale_in` meets its contract: a turn writes the root times the source's element to the
-- target's next place; the source, which is apart from the target, is as it was. Assumes nothing.
use Rattle.std.proofs.Common.{refl, ap, arith}
use Rattle.std.specs.Float.{binary64, nan}
use Rattle.std.specs.Float.Ieee.{mul}
use Rattle.scratch.proofs.Writing.{written_none, written_next, read-apart}
use Rattle.varcoef_magnus_graph_products.proofs.kernel.WeightedSample.scale_in.Goals as goal

pub loop-i-init : goal.loop-i-init
loop-i-init c = written_none _ _ _ _

pub loop-i-preserved : goal.loop-i-preserved
loop-i-preserved c =
    let read = read-apart c.loop-i.invariant c.args.source c.requires.apart (omega arith) nan in
    written_next c.loop-i.invariant (omega arith) _ _ refl (ap (mul binary64 _) read)
