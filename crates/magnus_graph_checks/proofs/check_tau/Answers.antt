-- `magnus_graph_checks::check_tau` meets its contract: it makes the test of `tau_fault`. Assumes nothing.
use Rattle.error.proofs.Checks.{refuses, accepts}
use Rattle.magnus_graph_faults.specs.StepChecks.{tau_fault}
use Rattle.magnus_graph_checks.proofs.check_tau.Goals as goal

pub returns-then-is_finite-tau : goal.returns-then-is_finite-tau
unfolding tau_fault
returns-then-is_finite-tau c = refuses _ _ (rw c.is_finite.ensures at c.if-is_finite-tau.true)

pub returns-else-is_finite-tau : goal.returns-else-is_finite-tau
unfolding tau_fault
returns-else-is_finite-tau c = accepts _ _ (rw c.is_finite.ensures at c.if-is_finite-tau.false)
