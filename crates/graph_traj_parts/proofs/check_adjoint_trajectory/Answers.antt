-- `check_adjoint_trajectory` meets its contract: it makes the checks of `adjoint_trajectory_fault` in their order, and each is safe by what those before it accepted. Assumes nothing.
use Rattle.error.specs.Checks.{next}
use Rattle.error.proofs.Checks.{handed_on}
use Rattle.error.proofs.Left.{fault-is}
use Rattle.graph_traj_parts.specs.TrajectoryChecks.{adjoint_trajectory_fault}
use Rattle.std.proofs.Common.{sym, arith}
use Rattle.graph_checks.proofs.Sound.{pattern-accepted}
use Rattle.graph_traj_parts.proofs.TrajectorySound.{one-segment-accepted, breakpoints-counted}
use Rattle.graph_traj_parts.proofs.check_adjoint_trajectory.Goals as goal

pub returns-in_err-check_pattern : goal.returns-in_err-check_pattern
unfolding adjoint_trajectory_fault next
returns-in_err-check_pattern c = rw (← fault-is c.in_err-check_pattern.ensures) (handed_on c.from_residual.ensures)

pub returns-in_err-check_one_segment : goal.returns-in_err-check_one_segment
unfolding adjoint_trajectory_fault next
returns-in_err-check_one_segment c = rw (← fault-is c.in_ok-check_pattern.ensures, ← c.in_err-check_one_segment.ensures) (handed_on c.from_residual-in_err-check_one_segment.ensures)

pub returns-in_err-check_trajectory_counts : goal.returns-in_err-check_trajectory_counts
unfolding adjoint_trajectory_fault next
returns-in_err-check_trajectory_counts c = rw (← fault-is c.in_ok-check_pattern.ensures, ← c.in_ok-check_one_segment.ensures, ← c.in_err-check_trajectory_counts.ensures) (handed_on c.from_residual-in_err-check_trajectory_counts.ensures)

pub returns-in_err-check_breakpoints : goal.returns-in_err-check_breakpoints
unfolding adjoint_trajectory_fault next
returns-in_err-check_breakpoints c = rw (← fault-is c.in_ok-check_pattern.ensures, ← c.in_ok-check_one_segment.ensures, ← c.in_ok-check_trajectory_counts.ensures, ← c.in_err-check_breakpoints.ensures) (handed_on c.from_residual-in_err-check_breakpoints.ensures)

pub returns-in_err-check_first_breakpoint : goal.returns-in_err-check_first_breakpoint
unfolding adjoint_trajectory_fault next
returns-in_err-check_first_breakpoint c = rw (← fault-is c.in_ok-check_pattern.ensures, ← c.in_ok-check_one_segment.ensures, ← c.in_ok-check_trajectory_counts.ensures, ← c.in_ok-check_breakpoints.ensures, ← c.in_err-check_first_breakpoint.ensures) (handed_on c.from_residual-in_err-check_first_breakpoint.ensures)

pub returns : goal.returns
unfolding adjoint_trajectory_fault next
returns c = rw (← fault-is c.in_ok-check_pattern.ensures, ← c.in_ok-check_one_segment.ensures, ← c.in_ok-check_trajectory_counts.ensures, ← c.in_ok-check_breakpoints.ensures, ← c.in_ok-check_first_breakpoint.ensures) c.check_lists.ensures

pub check_trajectory_counts-requires : goal.check_trajectory_counts-requires
check_trajectory_counts-requires c =
    let one = (one-segment-accepted _).0 (sym c.in_ok-check_one_segment.ensures) in (
      omega arith,
      ((pattern-accepted _ _ _).0 (sym (fault-is c.in_ok-check_pattern.ensures))).rows.few-entries,
    )

pub bounds-trajectory-0 : goal.bounds-trajectory-0
bounds-trajectory-0 c =
    let h = breakpoints-counted _ _ _ _ _ _ (sym c.in_ok-check_trajectory_counts.ensures) in
    omega arith
