-- `check_weighted_run_lengths` meets its contract: it makes the checks of `weighted_run_lengths_fault` in their order. Assumes nothing.
use Rattle.error.specs.Checks.{next}
use Rattle.error.proofs.Checks.{handed_on}
use Rattle.graph_traj_adjoint_faults.specs.AdjointRunChecks.{weighted_run_lengths_fault}
use Rattle.varcoef_magnus_graph_adjoint_checks.proofs.check_weighted_run_lengths.Goals as goal

pub returns-in_err-check_signals : goal.returns-in_err-check_signals
unfolding weighted_run_lengths_fault next
returns-in_err-check_signals c = rw (← c.in_err-check_signals.ensures) (handed_on c.from_residual.ensures)

pub returns-in_err-check_weights_length : goal.returns-in_err-check_weights_length
unfolding weighted_run_lengths_fault next
returns-in_err-check_weights_length c = rw (← c.in_ok-check_signals.ensures, ← c.in_err-check_weights_length.ensures) (handed_on c.from_residual-in_err-check_weights_length.ensures)

pub returns : goal.returns
unfolding weighted_run_lengths_fault next
returns c = rw (← c.in_ok-check_signals.ensures, ← c.in_ok-check_weights_length.ensures) c.check_room.ensures
