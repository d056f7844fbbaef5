-- `check_weighted_adjoint_run` meets its contract: it makes the checks of `weighted_adjoint_run_fault` in their order, and the need is a number of
-- the machine since an accepted pattern has at most 4,096 nodes and 65,535 columns. Assumes nothing.
use Rattle.std.proofs.Common.{sym, arith}
use Rattle.error.specs.Checks.{next}
use Rattle.error.proofs.Checks.{handed_on}
use Rattle.graph_traj_parts.proofs.TrajectorySound.{adjoint-trajectory-accepted}
use Rattle.graph_traj_adjoint_faults.specs.AdjointRunChecks.{weighted_adjoint_run_fault}
use Rattle.graph_traj_adjoint_checks.proofs.Steps.{no_steps, some-steps}
use Rattle.varcoef_magnus_graph_adjoint_checks.proofs.check_weighted_adjoint_run.Goals as goal

pub returns-in_err-check_adjoint_trajectory : goal.returns-in_err-check_adjoint_trajectory
unfolding weighted_adjoint_run_fault next
returns-in_err-check_adjoint_trajectory c = rw (← c.in_err-check_adjoint_trajectory.ensures) (handed_on c.from_residual.ensures)

pub returns-in_err-check_weighted_bounds : goal.returns-in_err-check_weighted_bounds
unfolding weighted_adjoint_run_fault next
returns-in_err-check_weighted_bounds c =
    rw (← c.in_ok-check_adjoint_trajectory.ensures, ← c.in_err-check_weighted_bounds.ensures)
    (handed_on c.from_residual-in_err-check_weighted_bounds.ensures)

pub returns-then-steps-eq0 : goal.returns-then-steps-eq0
unfolding weighted_adjoint_run_fault next
returns-then-steps-eq0 c =
    rw (← c.in_ok-check_adjoint_trajectory.ensures, ← c.in_ok-check_weighted_bounds.ensures)
    (no_steps _ _ _ _ c.if-steps-eq0.true c.check_signals.ensures)

pub returns-in_err-check_adjoint_steps : goal.returns-in_err-check_adjoint_steps
unfolding weighted_adjoint_run_fault next
returns-in_err-check_adjoint_steps c =
    rw (← c.in_ok-check_adjoint_trajectory.ensures, ← c.in_ok-check_weighted_bounds.ensures, ← c.weighted_spectra-weighted.ensures.0, ← c.weighted_spectra-weighted.ensures.1, ← c.in_err-check_adjoint_steps.ensures)
    (some-steps _ _ _ _ c.if-steps-eq0.false (handed_on c.from_residual-in_err-check_adjoint_steps.ensures))

pub overflow_mul-need : goal.overflow_mul-need
overflow_mul-need c =
    let rows = ((adjoint-trajectory-accepted _).0 (sym c.in_ok-check_adjoint_trajectory.ensures)).accepted.pattern.rows in
    omega (arith, rows.few-rows)

pub overflow_add-need : goal.overflow_add-need
overflow_add-need c =
    let rows = ((adjoint-trajectory-accepted _).0 (sym c.in_ok-check_adjoint_trajectory.ensures)).accepted.pattern.rows in
    omega (arith, rows.few-rows, rows.few-entries)

pub returns : goal.returns
unfolding weighted_adjoint_run_fault next
returns c =
    rw (← c.in_ok-check_adjoint_trajectory.ensures, ← c.in_ok-check_weighted_bounds.ensures, ← c.weighted_spectra-weighted.ensures.0, ← c.weighted_spectra-weighted.ensures.1, ← c.in_ok-check_adjoint_steps.ensures)
    (some-steps _ _ _ _ c.if-steps-eq0.false c.check_weighted_run_lengths.ensures)
