-- `check_run` meets its contract: it makes the checks of `run_fault` in their order, and each is safe by what those before it accepted. Assumes nothing.
use Rattle.error.specs.Checks.{next}
use Rattle.error.proofs.Checks.{handed_on}
use Rattle.graph_traj_faults.specs.RunChecks.{run_fault}
use Rattle.std.proofs.Common.{sym, arith}
use Rattle.graph_traj_parts.proofs.TrajectorySound.{trajectory-accepted}
use Rattle.graph_traj_checks.proofs.check.check_run.Goals as goal

pub returns-in_err-check_trajectory : goal.returns-in_err-check_trajectory
unfolding run_fault next
returns-in_err-check_trajectory c = rw (← c.in_err-check_trajectory.ensures) (handed_on c.from_residual.ensures)

pub returns-in_err-check_bound : goal.returns-in_err-check_bound
unfolding run_fault next
returns-in_err-check_bound c = rw (← c.in_ok-check_trajectory.ensures, ← c.in_err-check_bound.ensures) (handed_on c.from_residual-in_err-check_bound.ensures)

pub returns-in_err-check_step_count : goal.returns-in_err-check_step_count
unfolding run_fault next
returns-in_err-check_step_count c = rw (← c.in_ok-check_trajectory.ensures, ← c.in_ok-check_bound.ensures, ← c.in_err-check_step_count.ensures) (handed_on c.from_residual-in_err-check_step_count.ensures)

pub returns-in_err-check_first_breakpoint : goal.returns-in_err-check_first_breakpoint
unfolding run_fault next
returns-in_err-check_first_breakpoint c = rw (← c.in_ok-check_trajectory.ensures, ← c.in_ok-check_bound.ensures, ← c.in_ok-check_step_count.ensures, ← c.in_err-check_first_breakpoint.ensures) (handed_on c.from_residual-in_err-check_first_breakpoint.ensures)

pub returns-in_err-check_run_lengths : goal.returns-in_err-check_run_lengths
unfolding run_fault next
returns-in_err-check_run_lengths c = rw (← c.in_ok-check_trajectory.ensures, ← c.in_ok-check_bound.ensures, ← c.in_ok-check_step_count.ensures, ← c.in_ok-check_first_breakpoint.ensures, ← c.in_err-check_run_lengths.ensures) (handed_on c.from_residual-in_err-check_run_lengths.ensures)

pub returns : goal.returns
unfolding run_fault next
returns c = rw (← c.in_ok-check_trajectory.ensures, ← c.in_ok-check_bound.ensures, ← c.in_ok-check_step_count.ensures, ← c.in_ok-check_first_breakpoint.ensures, ← c.in_ok-check_run_lengths.ensures) c.check_segments_radius.ensures

pub bounds-trajectory-0 : goal.bounds-trajectory-0
bounds-trajectory-0 c =
    let counted = ((trajectory-accepted _).0 (sym c.in_ok-check_trajectory.ensures)).counts.of-breakpoints in
    omega arith

pub check_segments_radius-requires : goal.check_segments_radius-requires
check_segments_radius-requires c = ((trajectory-accepted _).0 (sym c.in_ok-check_trajectory.ensures)).times

pub overflow_mul-need : goal.overflow_mul-need
overflow_mul-need c =
    let rows = ((trajectory-accepted _).0 (sym c.in_ok-check_trajectory.ensures)).pattern.rows in
    omega (arith, rows.few-rows)

pub overflow_add-need : goal.overflow_add-need
overflow_add-need c =
    let rows = ((trajectory-accepted _).0 (sym c.in_ok-check_trajectory.ensures)).pattern.rows in
    omega (arith, rows.few-rows, rows.few-entries)
