-- Some vector of as many places as there were turns is written.
use Rattle.square_roots_estimates.specs.Overwritten.{Overwritten}
use Rattle.square_roots_estimates.proofs.kernel.estimate_within.Given as goal

abbrev pub invariant-loop-i : goal.invariant-loop-i
invariant-loop-i l = Overwritten l.i l.target l.fn.work l.work
