-- `varcoef_magnus_graph_checks::check_nodes` meets its contract: it makes the test of `no_nodes_fault`. Assumes nothing.
use borrow.Author.Tests.{eq-eqb, ne_eqb}
use Rattle.error.proofs.Checks.{refuses, accepts}
use Rattle.varcoef_magnus_graph_faults.specs.WeightedStepChecks.{no_nodes_fault}
use Rattle.varcoef_magnus_graph_checks.proofs.check_nodes.Goals as goal

pub returns-then-n-eq0 : goal.returns-then-n-eq0
unfolding no_nodes_fault
returns-then-n-eq0 c = refuses _ _ (eq-eqb _ _ c.if-n-eq0.true)

pub returns-else-n-eq0 : goal.returns-else-n-eq0
unfolding no_nodes_fault
returns-else-n-eq0 c = accepts _ _ (ne_eqb _ _ c.if-n-eq0.false)
