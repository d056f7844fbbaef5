-- `check_signals` meets its contract: it makes the checks of `signals_fault` in their order. Assumes nothing.
use Rattle.error.specs.Checks.{next}
use Rattle.error.proofs.Checks.{handed_on}
use Rattle.error.proofs.Left.{fault-is}
use Rattle.graph_traj_faults.specs.RunChecks.{signals_fault}
use Rattle.graph_traj_checks.proofs.check.check_signals.Goals as goal

pub returns-in_err-check_length : goal.returns-in_err-check_length
unfolding signals_fault next
returns-in_err-check_length c = rw (← fault-is c.in_err-check_length.ensures) (handed_on c.from_residual.ensures)

pub returns : goal.returns
unfolding signals_fault next
returns c = rw (← fault-is c.in_ok-check_length.ensures) (fault-is c.check_length-2.ensures)
