-- The invariant of `magnus_graph_taylor::kernel::taylor_sum`: the first k terms are added to what the work slice was after the copy.
use Rattle.std.specs.Float.{binary64}
use Rattle.arithmetic.specs.Arithmetic.{ieee}
use Rattle.magnus.specs.Coefficients.{reciprocal_factorial}
use Rattle.magnus_graph_helpers.proofs.Terms.{TermsTurn}
use Rattle.magnus_graph_taylor.proofs.kernel.taylor_sum.Given as goal

abbrev pub invariant-loop-k : goal.invariant-loop-k
invariant-loop-k g l =
    let omega = g.W.Omega in
    TermsTurn (ieee binary64) (omega.nodes l.omega) (omega.used l.omega) (reciprocal_factorial binary64) l.terms (omega.image l.omega)
    l.initial.work l.k l.work
