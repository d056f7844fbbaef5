-- What a run is lent of its trajectory (01, "Added by design"), and what an accepted trajectory has. proofs/TrajectorySound.antt shows
-- that the checks accept exactly these. Assumes nothing.
use Rattle.std.specs.Prelude.{◌≡◌, true, List, ℕ, ◌+◌, ◌*◌, ◌≤◌, ◌<◌, length, get_or, Float}
use Rattle.std.specs.Float.{nan, binary64}
use Rattle.std.specs.Float.Ieee.{eq, of_bits}
use Rattle.std.specs.Float.Ieee.Scale.{finite}
use Rattle.graph_checks.specs.Pattern.{Pattern}
use Rattle.graph_traj_breakpoints.specs.Breakpoints.{breakpoint, Breakpoints}
use Rattle.graph_traj_parts.specs.declared.Trajectory.{Trajectory as LentTrajectory}

-- One pattern for all segments, the breakpoints between them, and for each segment a start list and an end list, one value for each
-- column, and a law. The start lists stand one after the other in one pool, and so do the end lists.
pub record Trajectory : Type 0 where
  pub nodes : ℕ
  pub row_starts : List ℕ
  pub cols : List ℕ
  pub segments : ℕ
  pub breakpoints : List Float
  pub starts : List Float
  pub ends : List Float
  pub laws : List ℕ

abbrev pub trajectory : ℕ → List ℕ → List ℕ → ℕ → List Float → List Float → List Float → List ℕ → Trajectory
trajectory n row_starts cols segments breakpoints starts ends laws = record {
  nodes = n;
  row_starts = row_starts;
  cols = cols;
  segments = segments;
  breakpoints = breakpoints;
  starts = starts;
  ends = ends;
  laws = laws;
}

-- the trajectory that a caller lends
abbrev pub trajectory_of : LentTrajectory → Trajectory
trajectory_of t =
    trajectory t.n t.row_ptr.now t.col_idx.now t.segments t.breakpoints.now t.starts.now t.ends.now t.laws.now

-- ---- what an accepted trajectory has

-- the lengths of its lists (row 14)
pub record Counts (t : Trajectory) : Type 0 where
  pub of-breakpoints : length t.breakpoints ≡ t.segments + 1
  pub of-starts : length t.starts ≡ t.segments * length t.cols
  pub of-ends : length t.ends ≡ t.segments * length t.cols
  pub of_laws : length t.laws ≡ t.segments

-- known laws (row 19) and finite values (row 5)
pub record Lists (t : Trajectory) : Type 0 where
  pub known-laws : (k : ℕ) → k < length t.laws → get_or t.laws k 0 ≤ 2
  pub finite-starts : (k : ℕ) → k < length t.starts → finite (get_or t.starts k nan) ≡ true
  pub finite-ends : (k : ℕ) → k < length t.ends → finite (get_or t.ends k nan) ≡ true

-- a trajectory of a forward run
pub record AcceptedTrajectory (t : Trajectory) : Type 0 where
  pub pattern : Pattern t.nodes t.row_starts t.cols
  pub times : Breakpoints t.segments t.breakpoints
  pub counts : Counts t
  pub lists : Lists t

-- a trajectory that starts at 0 (row 17)
pub record FromZero (breakpoints : List Float) : Type 0 where
  pub first : eq (breakpoint breakpoints 0) (of_bits binary64 0) ≡ true

-- a trajectory of an adjoint run: one segment, from 0
pub record AcceptedAdjointTrajectory (t : Trajectory) : Type 0 where
  pub accepted : AcceptedTrajectory t
  pub one-segment : t.segments ≡ 1
  pub from_zero : FromZero t.breakpoints
