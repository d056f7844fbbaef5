-- `magnus6_graph_checks::check_samples6` meets its contract: it makes the checks of `samples6_fault` in their order. Assumes nothing.
use Rattle.error.specs.Checks.{next}
use Rattle.error.proofs.Checks.{handed_on}
use Rattle.error.proofs.Left.{fault-is}
use Rattle.magnus_graph_faults.specs.StepChecks.{sample_fault}
use Rattle.magnus6_graph_faults.specs.Step6Checks.{samples6_fault}
use Rattle.magnus6_graph_checks.proofs.check_samples6.Goals as goal

pub returns-in_err-check_samples : goal.returns-in_err-check_samples
unfolding samples6_fault sample_fault next
returns-in_err-check_samples c = rw (← c.in_err-check_samples.ensures) (handed_on c.from_residual.ensures)

pub returns : goal.returns
unfolding samples6_fault sample_fault next
returns c = rw (← c.in_ok-check_samples.ensures) (fault-is c.from_csr_parts.ensures)
