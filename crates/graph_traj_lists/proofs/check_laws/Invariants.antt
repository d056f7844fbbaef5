-- No law of those passed is above 2. Assumes nothing.
use Rattle.std.proofs.Common.{length}
use Rattle.graph_checks.proofs.First.{Passed}
use Rattle.graph_traj_lists.specs.ListChecks.{unknown_law_at}
use Rattle.graph_traj_lists.proofs.check_laws.Given as goal

abbrev pub invariant-loop-law : goal.invariant-loop-law
invariant-loop-law l = Passed (unknown_law_at l.laws) (length l.laws) l.law-index
