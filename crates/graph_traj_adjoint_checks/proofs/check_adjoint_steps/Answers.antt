-- `check_adjoint_steps` meets its contract: it makes the checks of `adjoint_steps_fault` in their order. Assumes nothing.
use Rattle.error.specs.Checks.{next}
use Rattle.error.proofs.Checks.{handed_on}
use Rattle.graph_traj_adjoint_faults.specs.AdjointRunChecks.{adjoint_steps_fault}
use Rattle.graph_traj_adjoint_checks.proofs.check_adjoint_steps.Goals as goal

pub returns-in_err-check_adjoint_step_count : goal.returns-in_err-check_adjoint_step_count
unfolding adjoint_steps_fault next
returns-in_err-check_adjoint_step_count c = rw (← c.in_err-check_adjoint_step_count.ensures) (handed_on c.from_residual.ensures)

pub returns : goal.returns
unfolding adjoint_steps_fault next
returns c = rw (← c.in_ok-check_adjoint_step_count.ensures) c.check_step_length.ensures
