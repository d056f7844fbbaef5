-- `magnus_graph_checks::check_step_length` meets its contract: it makes the checks of `step_length_fault` in their order. Assumes nothing.
use Rattle.error.specs.Checks.{next}
use Rattle.error.proofs.Checks.{handed_on}
use Rattle.magnus_graph_faults.specs.StepChecks.{step_length_fault}
use Rattle.magnus_graph_checks.proofs.check_step_length.Goals as goal

pub returns-in_err-check_tau : goal.returns-in_err-check_tau
unfolding step_length_fault next
returns-in_err-check_tau c = rw (← c.in_err-check_tau.ensures) (handed_on c.from_residual.ensures)

pub returns : goal.returns
unfolding step_length_fault next
returns c = rw (← c.in_ok-check_tau.ensures) c.check_radius.ensures
