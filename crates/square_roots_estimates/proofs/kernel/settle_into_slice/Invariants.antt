-- `settle_into_slice`: the roots of the elements passed are written.
use Rattle.std.proofs.Common.{length}
use lib.ListN.{get_or}
use lib.Ieee.{nan, binary64}
use Rattle.scratch.proofs.Writing.{Written}
use Rattle.ieee_square_root.specs.SquareRoot.{square_root}
use Rattle.square_roots_estimates.proofs.kernel.settle_into_slice.Given as goal

abbrev pub invariant-loop-i : goal.invariant-loop-i
invariant-loop-i l = Written 0 (λ k. square_root binary64 (get_or l.src k nan)) (length l.fn.dst) l.fn.dst l.i l.dst
