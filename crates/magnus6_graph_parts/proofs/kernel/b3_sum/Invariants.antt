-- The invariant of `magnus6_graph_parts::kernel::b3_sum`: the places of B3 x before place i are written.
use Rattle.std.specs.Prelude.{◌*◌, length}
use Rattle.std.specs.Float.{binary64}
use Rattle.std.specs.Float.Ieee.{mul}
use Rattle.arithmetic.specs.Arithmetic.{ieee}
use Rattle.scratch.specs.Parts.{part}
use Rattle.scratch.proofs.Writing.{Written}
use Rattle.magnus.specs.Omega6.{constants6}
use Rattle.magnus6_graph_parts.proofs.Omega6Walks.{second_difference_at}
use Rattle.magnus6_graph_parts.proofs.kernel.b3_sum.Given as goal

abbrev pub invariant-loop-i : goal.invariant-loop-i
invariant-loop-i l =
    let n = l.n in
    let w = l.before in
    let old = l.initial.b3-items in
    let scale = mul binary64 l.tau constants6.ten_over3 in
    Written 0 (second_difference_at (ieee binary64) scale (part (6 * n) n w) (part (7 * n) n w) (part (8 * n) n w)) (length old) old l.i l.b3-items
