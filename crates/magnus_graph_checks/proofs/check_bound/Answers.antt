-- `magnus_graph_checks::check_bound` meets its contract: it makes the test of `bound_fault`. Assumes nothing.
use Rattle.std.proofs.Common.{sym}
use borrow.Author.Tests.{not-true, not-false}
use Rattle.error.proofs.Checks.{refuses, accepts}
use Rattle.magnus_graph_faults.specs.StepChecks.{bound_fault}
use Rattle.magnus_graph_checks.proofs.check_bound.Goals as goal

pub returns-then-is_positive : goal.returns-then-is_positive
unfolding bound_fault
returns-then-is_positive c = accepts _ _ (not-true _ (sym c.if-is_positive.ensures))

pub returns-else-is_positive : goal.returns-else-is_positive
unfolding bound_fault
returns-else-is_positive c = refuses _ _ (not-false _ (sym c.if-is_positive.ensures))
