-- `scratch::kernel::store`: of the vector at `at` the elements that were passed are written.
use Rattle.std.proofs.Common.{length, ◌+◌}
use lib.ListN.{get_or}
use lib.Ieee.{nan}
use Rattle.scratch.proofs.Writing.{Written}
use Rattle.scratch.proofs.kernel.store.Given as goal

abbrev pub invariant-loop-i : goal.invariant-loop-i
invariant-loop-i l = Written 0 (λ k. get_or l.work (l.at + k) nan) (length l.fn.out) l.fn.out l.i l.out
