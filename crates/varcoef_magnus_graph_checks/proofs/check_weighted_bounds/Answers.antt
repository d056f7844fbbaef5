-- `varcoef_magnus_graph_checks::check_weighted_bounds` meets its contract: it makes the checks of `weighted_bounds_fault` in their order. Assumes nothing.
use Rattle.error.specs.Checks.{next}
use Rattle.error.proofs.Checks.{handed_on}
use Rattle.varcoef_magnus_graph_faults.specs.WeightedStepChecks.{weighted_bounds_fault}
use Rattle.varcoef_magnus_graph_checks.proofs.check_weighted_bounds.Goals as goal

pub returns-in_err-check_bound : goal.returns-in_err-check_bound
unfolding weighted_bounds_fault next
returns-in_err-check_bound c = rw (← c.in_err-check_bound.ensures) (handed_on c.from_residual.ensures)

pub returns-in_err-check_bound-2 : goal.returns-in_err-check_bound-2
unfolding weighted_bounds_fault next
returns-in_err-check_bound-2 c = rw (← c.in_ok-check_bound.ensures, ← c.in_err-check_bound-2.ensures) (handed_on c.from_residual-in_err-check_bound-2.ensures)

pub returns : goal.returns
unfolding weighted_bounds_fault next
returns c = rw (← c.in_ok-check_bound.ensures, ← c.in_ok-check_bound-2.ensures) c.check_nodes.ensures
