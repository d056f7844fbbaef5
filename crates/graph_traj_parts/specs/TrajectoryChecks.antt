-- The checks of a trajectory's parts: rows 13 and 17 of document 01's table, each over all inputs, and the order of all rows that concern
-- the trajectory alone, in the runs. What is read past a list's end is NaN; no check that comes after an accepted one reads there.
-- Assumes nothing.
use Rattle.std.specs.Prelude.{not, ℕ, length, Float}
use Rattle.std.specs.Float.{binary64}
use Rattle.std.specs.Float.Ieee.{eq}
use Rattle.arithmetic.specs.Arithmetic.{ieee}
use Rattle.error.specs.Checks.{refuse_if, refuse_unequal, next}
use Rattle.error.specs.declared.Refusal.TheVariants.{SegmentCount, FirstBreakpoint}
use Rattle.error.specs.Answer.{Checked}
use Rattle.graph_checks.specs.PatternChecks.{pattern_fault}
use Rattle.graph_traj_breakpoints.specs.Breakpoints.{breakpoint}
use Rattle.graph_traj_breakpoints.specs.LookupChecks.{segment_count_fault, breakpoints_fault}
use Rattle.graph_traj_lists.specs.ListChecks.{counts_fault, lists_fault}
use Rattle.graph_traj_parts.specs.Trajectory.{Trajectory}
open ieee binary64 use {zero}

-- ---- the rows of the table

-- row 13 of an adjoint run: other than one segment
unfoldable pub one_segment_fault : ℕ → Checked
one_segment_fault segments = refuse_unequal segments 1 (SegmentCount segments)

-- row 17: the first breakpoint is not 0 (-0 passes, since the comparison is IEEE's)
unfoldable pub first_breakpoint_fault : Float → Checked
first_breakpoint_fault first = refuse_if (not (eq first zero)) (FirstBreakpoint first)

-- ---- their order

-- row 14 of a trajectory: the breakpoints, the start pool, the end pool and the laws
abbrev pub trajectory_counts_fault : Trajectory → Checked
trajectory_counts_fault t =
    counts_fault t.segments (length t.cols) (length t.breakpoints) (length t.starts) (length t.ends) (length t.laws)

-- the trajectory of a forward run: 6 and 1 to 4, 13, 14, 15, 19, 5
unfoldable pub trajectory_fault : Trajectory → Checked
trajectory_fault t =
    next (pattern_fault t.nodes t.row_starts t.cols)
    (next (segment_count_fault t.segments)
    (next (trajectory_counts_fault t)
    (next (breakpoints_fault t.breakpoints)
    (lists_fault t.laws t.starts t.ends))))

-- that of an adjoint run, which has one segment, from 0: 6 and 1 to 4, 13, 14, 15, 17, 19, 5
unfoldable pub adjoint_trajectory_fault : Trajectory → Checked
adjoint_trajectory_fault t =
    next (pattern_fault t.nodes t.row_starts t.cols)
    (next (one_segment_fault t.segments)
    (next (trajectory_counts_fault t)
    (next (breakpoints_fault t.breakpoints)
    (next (first_breakpoint_fault (breakpoint t.breakpoints 0))
    (lists_fault t.laws t.starts t.ends)))))
