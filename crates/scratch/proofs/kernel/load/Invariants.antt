-- `scratch::kernel::load`: the elements of v that were passed are written.
use Rattle.std.proofs.Common.{length}
use lib.ListN.{get_or}
use lib.Ieee.{nan}
use Rattle.scratch.proofs.Writing.{Written}
use Rattle.scratch.proofs.kernel.load.Given as goal

abbrev pub invariant-loop-i : goal.invariant-loop-i
invariant-loop-i l = Written l.at (λ k. get_or l.v k nan) (length l.v) l.fn.work l.i l.work
