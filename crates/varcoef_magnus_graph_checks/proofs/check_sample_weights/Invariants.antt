-- `varcoef_magnus_graph_checks::check_sample_weights`: every weight that the walk has passed is positive. Assumes nothing.
use Rattle.std.proofs.Common.{length}
use Rattle.graph_checks.proofs.First.{Passed}
use Rattle.varcoef_magnus_graph_faults.specs.WeightedStepChecks.{not_positive_at}
use Rattle.varcoef_magnus_graph_checks.proofs.check_sample_weights.Given as goal

abbrev pub invariant-loop-w : goal.invariant-loop-w
invariant-loop-w l = Passed (not_positive_at l.weights) (length l.weights) l.w-index
