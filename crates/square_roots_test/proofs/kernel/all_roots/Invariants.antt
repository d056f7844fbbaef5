-- Where the sign bit is left, the roots before place i are right.
use Rattle.square_roots_test.proofs.Tested.{RootsBefore}
use Rattle.square_roots_test.proofs.kernel.all_roots.Given as goal

abbrev pub invariant-loop-i : goal.invariant-loop-i
invariant-loop-i l = RootsBefore l.src l.roots l.i l.passed
