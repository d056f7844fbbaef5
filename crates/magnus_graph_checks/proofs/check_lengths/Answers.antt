-- `magnus_graph_checks::check_lengths` meets its contract: it makes the checks of `lengths_fault` in their order. Assumes nothing.
use Rattle.error.specs.Checks.{next}
use Rattle.error.proofs.Checks.{handed_on}
use Rattle.error.proofs.Left.{fault-is}
use Rattle.magnus_graph_faults.specs.StepChecks.{lengths_fault}
use Rattle.magnus_graph_checks.proofs.check_lengths.Goals as goal

pub returns-in_err-check_length : goal.returns-in_err-check_length
unfolding lengths_fault next
returns-in_err-check_length c = rw (← fault-is c.in_err-check_length.ensures) (handed_on c.from_residual.ensures)

pub returns-in_err-check_length-2 : goal.returns-in_err-check_length-2
unfolding lengths_fault next
returns-in_err-check_length-2 c = rw (← fault-is c.in_ok-check_length.ensures, ← fault-is c.in_err-check_length-2.ensures) (handed_on c.from_residual-in_err-check_length-2.ensures)

pub returns : goal.returns
unfolding lengths_fault next
returns c = rw (← fault-is c.in_ok-check_length.ensures, ← fault-is c.in_ok-check_length-2.ensures) (fault-is c.check_length-3.ensures)
