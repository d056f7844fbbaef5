-- The invariant of `varcoef_magnus_graph_products::kernel::WeightedSample::scale_in`: the places before place i are written, and nothing else.
use Rattle.std.specs.Float.{binary64}
use Rattle.arithmetic.specs.Arithmetic.{at, ieee}
use Rattle.scratch.specs.Parts.{part}
use Rattle.scratch.proofs.Writing.{Written}
use Rattle.varcoef_magnus_graph_products.proofs.WeightedProduct.{times_root}
use Rattle.varcoef_magnus_graph_products.proofs.kernel.WeightedSample.scale_in.Given as goal

abbrev pub invariant-loop-i : goal.invariant-loop-i
invariant-loop-i l =
    let n = l.self.sample.pattern.n in
    let A = ieee binary64 in
    Written l.target (times_root A l.self.roots.now (at A (part l.source n l.fn.work))) n l.fn.work l.i l.work
