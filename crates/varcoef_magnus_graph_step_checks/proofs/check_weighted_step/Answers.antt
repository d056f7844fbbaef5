-- `varcoef_magnus_graph_step_checks::check_weighted_step` meets its contract: it makes the checks of `weighted_step_fault` in their order, and the need
-- 9n is a number of the machine since an accepted sample has at most 4,096 nodes. Assumes nothing.
use Rattle.error.specs.Checks.{next}
use Rattle.error.proofs.Checks.{handed_on}
use Rattle.std.proofs.Common.{refl, arith}
use Rattle.magnus_graph_faults.proofs.StepSound.{few-nodes}
use Rattle.varcoef_magnus_graph_faults.specs.WeightedStepChecks.{weighted_step_fault}
use Rattle.varcoef_magnus_graph_step_checks.proofs.check_weighted_step.Goals as goal

pub overflow_mul-first : goal.overflow_mul-first
overflow_mul-first c = let few = few-nodes _ _ c.in_ok-check_samples.ensures refl in omega arith

pub returns-in_err-check_samples : goal.returns-in_err-check_samples
unfolding weighted_step_fault next
returns-in_err-check_samples c = rw (← c.in_err-check_samples.ensures) (handed_on c.from_residual.ensures)

pub returns-in_err-check_weighted_bounds : goal.returns-in_err-check_weighted_bounds
unfolding weighted_step_fault next
returns-in_err-check_weighted_bounds c = rw (← c.in_ok-check_samples.ensures, ← c.in_err-check_weighted_bounds.ensures) (handed_on c.from_residual-in_err-check_weighted_bounds.ensures)

pub returns-in_err-check_step_length : goal.returns-in_err-check_step_length
unfolding weighted_step_fault next
returns-in_err-check_step_length c = rw (← c.in_ok-check_samples.ensures, ← c.in_ok-check_weighted_bounds.ensures, ← c.weighted_spectra-weighted.ensures.0, ← c.weighted_spectra-weighted.ensures.1, ← c.in_err-check_step_length.ensures) (handed_on c.from_residual-in_err-check_step_length.ensures)

pub returns-in_err-check_lengths : goal.returns-in_err-check_lengths
unfolding weighted_step_fault next
returns-in_err-check_lengths c = rw (← c.in_ok-check_samples.ensures, ← c.in_ok-check_weighted_bounds.ensures, ← c.weighted_spectra-weighted.ensures.0, ← c.weighted_spectra-weighted.ensures.1, ← c.in_ok-check_step_length.ensures, ← c.in_err-check_lengths.ensures) (handed_on c.from_residual-in_err-check_lengths.ensures)

pub returns-in_err-check_weights_length : goal.returns-in_err-check_weights_length
unfolding weighted_step_fault next
returns-in_err-check_weights_length c = rw (← c.in_ok-check_samples.ensures, ← c.in_ok-check_weighted_bounds.ensures, ← c.weighted_spectra-weighted.ensures.0, ← c.weighted_spectra-weighted.ensures.1, ← c.in_ok-check_step_length.ensures, ← c.in_ok-check_lengths.ensures, ← c.in_err-check_weights_length.ensures) (handed_on c.from_residual-in_err-check_weights_length.ensures)

pub returns-in_err-check_room : goal.returns-in_err-check_room
unfolding weighted_step_fault next
returns-in_err-check_room c = rw (← c.in_ok-check_samples.ensures, ← c.in_ok-check_weighted_bounds.ensures, ← c.weighted_spectra-weighted.ensures.0, ← c.weighted_spectra-weighted.ensures.1, ← c.in_ok-check_step_length.ensures, ← c.in_ok-check_lengths.ensures, ← c.in_ok-check_weights_length.ensures, ← c.in_err-check_room.ensures) (handed_on c.from_residual-in_err-check_room.ensures)

pub returns : goal.returns
unfolding weighted_step_fault next
returns c = rw (← c.in_ok-check_samples.ensures, ← c.in_ok-check_weighted_bounds.ensures, ← c.weighted_spectra-weighted.ensures.0, ← c.weighted_spectra-weighted.ensures.1, ← c.in_ok-check_step_length.ensures, ← c.in_ok-check_lengths.ensures, ← c.in_ok-check_weights_length.ensures, ← c.in_ok-check_room.ensures) c.check_weights.ensures
