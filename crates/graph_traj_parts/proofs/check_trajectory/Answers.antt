-- `check_trajectory` meets its contract: it makes the checks of `trajectory_fault` in their order, and each is safe by what those before it accepted. Assumes nothing.
use Rattle.error.specs.Checks.{next}
use Rattle.error.proofs.Checks.{handed_on}
use Rattle.error.proofs.Left.{fault-is}
use Rattle.graph_traj_parts.specs.TrajectoryChecks.{trajectory_fault}
use Rattle.std.proofs.Common.{sym}
use Rattle.graph_checks.proofs.Sound.{pattern-accepted}
use Rattle.graph_traj_breakpoints.proofs.LookupSound.{segment-count-accepted}
use Rattle.graph_traj_parts.proofs.check_trajectory.Goals as goal

pub returns-in_err-check_pattern : goal.returns-in_err-check_pattern
unfolding trajectory_fault next
returns-in_err-check_pattern c = rw (← fault-is c.in_err-check_pattern.ensures) (handed_on c.from_residual.ensures)

pub returns-in_err-check_segment_count : goal.returns-in_err-check_segment_count
unfolding trajectory_fault next
returns-in_err-check_segment_count c = rw (← fault-is c.in_ok-check_pattern.ensures, ← c.in_err-check_segment_count.ensures) (handed_on c.from_residual-in_err-check_segment_count.ensures)

pub returns-in_err-check_trajectory_counts : goal.returns-in_err-check_trajectory_counts
unfolding trajectory_fault next
returns-in_err-check_trajectory_counts c = rw (← fault-is c.in_ok-check_pattern.ensures, ← c.in_ok-check_segment_count.ensures, ← c.in_err-check_trajectory_counts.ensures) (handed_on c.from_residual-in_err-check_trajectory_counts.ensures)

pub returns-in_err-check_breakpoints : goal.returns-in_err-check_breakpoints
unfolding trajectory_fault next
returns-in_err-check_breakpoints c = rw (← fault-is c.in_ok-check_pattern.ensures, ← c.in_ok-check_segment_count.ensures, ← c.in_ok-check_trajectory_counts.ensures, ← c.in_err-check_breakpoints.ensures) (handed_on c.from_residual-in_err-check_breakpoints.ensures)

pub returns : goal.returns
unfolding trajectory_fault next
returns c = rw (← fault-is c.in_ok-check_pattern.ensures, ← c.in_ok-check_segment_count.ensures, ← c.in_ok-check_trajectory_counts.ensures, ← c.in_ok-check_breakpoints.ensures) c.check_lists.ensures

pub check_trajectory_counts-requires : goal.check_trajectory_counts-requires
check_trajectory_counts-requires c = (
  ((segment-count-accepted _).0 (sym c.in_ok-check_segment_count.ensures)).1,
  ((pattern-accepted _ _ _).0 (sym (fault-is c.in_ok-check_pattern.ensures))).rows.few-entries,
)
