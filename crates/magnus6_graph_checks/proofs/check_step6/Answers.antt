-- `magnus6_graph_checks::check_step6` meets its contract: it makes the checks of `step6_fault` in their order, and the need 22n is a number of the machine
-- since an accepted sample has at most 4,096 nodes. Assumes nothing.
use Rattle.error.specs.Checks.{next}
use Rattle.error.proofs.Checks.{handed_on}
use Rattle.std.proofs.Common.{refl, arith}
use Rattle.magnus6_graph_faults.specs.Step6Checks.{step6_fault}
use Rattle.magnus6_graph_faults.proofs.Step6Sound.{few-nodes6}
use Rattle.magnus6_graph_checks.proofs.check_step6.Goals as goal

pub overflow_mul-first : goal.overflow_mul-first
overflow_mul-first c = let few = few-nodes6 _ _ _ c.in_ok-check_samples6.ensures refl in omega arith

pub returns-in_err-check_samples6 : goal.returns-in_err-check_samples6
unfolding step6_fault next
returns-in_err-check_samples6 c = rw (← c.in_err-check_samples6.ensures) (handed_on c.from_residual.ensures)

pub returns-in_err-check_bound : goal.returns-in_err-check_bound
unfolding step6_fault next
returns-in_err-check_bound c = rw (← c.in_ok-check_samples6.ensures, ← c.in_err-check_bound.ensures) (handed_on c.from_residual-in_err-check_bound.ensures)

pub returns-in_err-check_step_length : goal.returns-in_err-check_step_length
unfolding step6_fault next
returns-in_err-check_step_length c = rw (← c.in_ok-check_samples6.ensures, ← c.in_ok-check_bound.ensures, ← c.in_err-check_step_length.ensures) (handed_on c.from_residual-in_err-check_step_length.ensures)

pub returns-in_err-check_lengths6 : goal.returns-in_err-check_lengths6
unfolding step6_fault next
returns-in_err-check_lengths6 c = rw (← c.in_ok-check_samples6.ensures, ← c.in_ok-check_bound.ensures, ← c.in_ok-check_step_length.ensures, ← c.in_err-check_lengths6.ensures) (handed_on c.from_residual-in_err-check_lengths6.ensures)

pub returns : goal.returns
unfolding step6_fault next
returns c = rw (← c.in_ok-check_samples6.ensures, ← c.in_ok-check_bound.ensures, ← c.in_ok-check_step_length.ensures, ← c.in_ok-check_lengths6.ensures) c.check_room.ensures
