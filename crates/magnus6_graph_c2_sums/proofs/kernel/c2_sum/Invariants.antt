-- The invariant of `magnus6_graph_c2_sums::kernel::c2_sum`: the places of C2 x before place i are written.
use Rattle.std.specs.Prelude.{◌*◌, length}
use Rattle.std.specs.Float.{binary64}
use Rattle.arithmetic.specs.Arithmetic.{ieee}
use Rattle.scratch.specs.Parts.{part}
use Rattle.scratch.proofs.Writing.{Written}
use Rattle.magnus.specs.Omega6.{constants6}
use Rattle.magnus6_graph_parts.proofs.Omega6Walks.{c2_sum_at}
use Rattle.magnus6_graph_c2_sums.proofs.kernel.c2_sum.Given as goal

abbrev pub invariant-loop-i : goal.invariant-loop-i
invariant-loop-i l =
    let n = l.n in
    let w = l.before in
    let old = l.initial.c2-items in
    Written 0
    (c2_sum_at (ieee binary64) constants6 l.tau (part (15 * n) n w) (part (7 * n) n w) (part (16 * n) n w) (part (8 * n) n w) (part (17 * n) n w)
    (part (18 * n) n w) (part (19 * n) n w))
    (length old) old l.i l.c2-items
