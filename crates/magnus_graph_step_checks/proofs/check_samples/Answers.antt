-- `magnus_graph_step_checks::check_samples` meets its contract: it makes the checks of `samples_fault` in their order. Assumes nothing.
use Rattle.error.specs.Checks.{next}
use Rattle.error.proofs.Checks.{handed_on}
use Rattle.error.proofs.Left.{fault-is}
use Rattle.magnus_graph_faults.specs.StepChecks.{samples_fault, sample_fault}
use Rattle.magnus_graph_step_checks.proofs.check_samples.Goals as goal

pub returns-in_err-from_csr_parts : goal.returns-in_err-from_csr_parts
unfolding samples_fault sample_fault next
returns-in_err-from_csr_parts c = rw (← fault-is c.in_err-from_csr_parts.ensures) (handed_on c.from_residual.ensures)

pub returns : goal.returns
unfolding samples_fault sample_fault next
returns c = rw (← fault-is c.in_ok-from_csr_parts.ensures) (fault-is c.from_csr_parts-2.ensures)
