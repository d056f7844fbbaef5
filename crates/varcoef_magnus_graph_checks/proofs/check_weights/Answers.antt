-- `varcoef_magnus_graph_checks::check_weights` meets its contract: it makes the checks of `weight_fault` in their order. Assumes nothing.
use Rattle.error.specs.Checks.{next}
use Rattle.error.proofs.Checks.{handed_on}
use Rattle.varcoef_magnus_graph_faults.specs.WeightedStepChecks.{weight_fault}
use Rattle.varcoef_magnus_graph_checks.proofs.check_weights.Goals as goal

pub returns-in_err-check_sample_weights : goal.returns-in_err-check_sample_weights
unfolding weight_fault next
returns-in_err-check_sample_weights c = rw (← c.in_err-check_sample_weights.ensures) (handed_on c.from_residual.ensures)

pub returns : goal.returns
unfolding weight_fault next
returns c = rw (← c.in_ok-check_sample_weights.ensures) c.check_sample_weights-2.ensures
