-- `magnus_graph_step_checks::check_step` meets its contract: it makes the checks of `step_fault` in their order, and the need 5n is a number of the machine
-- since an accepted sample has at most 4,096 nodes. Assumes nothing.
use Rattle.error.specs.Checks.{next}
use Rattle.error.proofs.Checks.{handed_on}
use Rattle.std.proofs.Common.{refl, arith}
use Rattle.magnus_graph_faults.specs.StepChecks.{step_fault}
use Rattle.magnus_graph_faults.proofs.StepSound.{few-nodes}
use Rattle.magnus_graph_step_checks.proofs.check_step.Goals as goal

pub overflow_mul-first : goal.overflow_mul-first
overflow_mul-first c = let few = few-nodes _ _ c.in_ok-check_samples.ensures refl in omega arith

pub returns-in_err-check_samples : goal.returns-in_err-check_samples
unfolding step_fault next
returns-in_err-check_samples c = rw (← c.in_err-check_samples.ensures) (handed_on c.from_residual.ensures)

pub returns-in_err-check_bound : goal.returns-in_err-check_bound
unfolding step_fault next
returns-in_err-check_bound c = rw (← c.in_ok-check_samples.ensures, ← c.in_err-check_bound.ensures) (handed_on c.from_residual-in_err-check_bound.ensures)

pub returns-in_err-check_step_length : goal.returns-in_err-check_step_length
unfolding step_fault next
returns-in_err-check_step_length c = rw (← c.in_ok-check_samples.ensures, ← c.in_ok-check_bound.ensures, ← c.in_err-check_step_length.ensures) (handed_on c.from_residual-in_err-check_step_length.ensures)

pub returns-in_err-check_lengths : goal.returns-in_err-check_lengths
unfolding step_fault next
returns-in_err-check_lengths c = rw (← c.in_ok-check_samples.ensures, ← c.in_ok-check_bound.ensures, ← c.in_ok-check_step_length.ensures, ← c.in_err-check_lengths.ensures) (handed_on c.from_residual-in_err-check_lengths.ensures)

pub returns : goal.returns
unfolding step_fault next
returns c = rw (← c.in_ok-check_samples.ensures, ← c.in_ok-check_bound.ensures, ← c.in_ok-check_step_length.ensures, ← c.in_ok-check_lengths.ensures) c.check_room.ensures
