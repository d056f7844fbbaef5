-- `magnus_graph_checks::check_radius` meets its contract: it makes the test of `radius_fault`. Assumes nothing.
use Rattle.error.proofs.Checks.{refuses, accepts}
use Rattle.magnus_graph_faults.specs.StepChecks.{radius_fault}
use Rattle.magnus_graph_checks.proofs.check_radius.Goals as goal

pub returns-then-bound-tau : goal.returns-then-bound-tau
unfolding radius_fault
returns-then-bound-tau c = refuses _ _ c.if-bound-tau.true

pub returns-else-bound-tau : goal.returns-else-bound-tau
unfolding radius_fault
returns-else-bound-tau c = accepts _ _ c.if-bound-tau.false
