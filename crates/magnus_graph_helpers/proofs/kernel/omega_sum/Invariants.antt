-- The invariant of `magnus_graph_helpers::kernel::omega_sum`: the places of Ωv before place i are written, and nothing else.
use Rattle.std.specs.Float.{binary64}
use Rattle.arithmetic.specs.Arithmetic.{ieee}
use Rattle.scratch.specs.Parts.{part}
use Rattle.scratch.proofs.Writing.{Written}
use Rattle.magnus_graph_helpers.proofs.Terms.{omega4_sum_at}
use Rattle.magnus_graph_helpers.proofs.kernel.omega_sum.Given as goal

abbrev pub invariant-loop-i : goal.invariant-loop-i
invariant-loop-i l =
    let w = l.fn.work in
    Written l.target (omega4_sum_at (ieee binary64) l.scale l.comm_scale (part l.a l.n w) (part l.b l.n w) (part l.c l.n w) (part l.target l.n w)) l.n w l.i l.work
