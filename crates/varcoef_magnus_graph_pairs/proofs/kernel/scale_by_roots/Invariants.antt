-- The invariant of `varcoef_magnus_graph_pairs::kernel::scale_by_roots`: the pairs before pair i are written, and nothing else.
use Rattle.std.specs.Float.{binary64}
use Rattle.arithmetic.specs.Arithmetic.{ieee, at}
use Rattle.varcoef_magnus_graph_pairs.proofs.Walks.{Rooted}
use Rattle.varcoef_magnus_graph_pairs.proofs.kernel.scale_by_roots.Given as goal

abbrev pub invariant-loop-i : goal.invariant-loop-i
invariant-loop-i l =
    let v = at (ieee binary64) l.v in
    Rooted l.roots.count l.roots.values.now v v l.fn.scaled l.i l.scaled
