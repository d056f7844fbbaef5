-- `check_run_lengths` meets its contract: it makes the checks of `run_lengths_fault` in their order. Assumes nothing.
use Rattle.error.specs.Checks.{next}
use Rattle.error.proofs.Checks.{handed_on}
use Rattle.graph_traj_faults.specs.RunChecks.{run_lengths_fault}
use Rattle.graph_traj_checks.proofs.check.check_run_lengths.Goals as goal

pub returns-in_err-check_signals : goal.returns-in_err-check_signals
unfolding run_lengths_fault next
returns-in_err-check_signals c = rw (← c.in_err-check_signals.ensures) (handed_on c.from_residual.ensures)

pub returns : goal.returns
unfolding run_lengths_fault next
returns c = rw (← c.in_ok-check_signals.ensures) c.check_room.ensures
