-- `magnus6_graph_checks::check_lengths6` meets its contract: it makes the checks of `lengths6_fault` in their order. Assumes nothing.
use Rattle.error.specs.Checks.{next}
use Rattle.error.proofs.Checks.{handed_on}
use Rattle.error.proofs.Left.{fault-is}
use Rattle.magnus6_graph_faults.specs.Step6Checks.{lengths6_fault}
use Rattle.magnus6_graph_checks.proofs.check_lengths6.Goals as goal

pub returns-in_err-check_length : goal.returns-in_err-check_length
unfolding lengths6_fault next
returns-in_err-check_length c = rw (← fault-is c.in_err-check_length.ensures) (handed_on c.from_residual.ensures)

pub returns : goal.returns
unfolding lengths6_fault next
returns c = rw (← fault-is c.in_ok-check_length.ensures) c.check_lengths.ensures
