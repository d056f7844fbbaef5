-- What the checks of a trajectory accept: each row exactly what it should, and so the whole check exactly an `AcceptedTrajectory`, and
-- that of an adjoint run exactly an `AcceptedAdjointTrajectory`. The runs use these, and not the checks' definitions. Assumes nothing.
use mathlib.Core.Path.{◌≡◌, ap}
use mathlib.Core.Logic.{◌↔◌}
use mathlib.Core.Bool.{not}
use mathlib.Core.List.{List}
use Prim.Native.Nat.{ℕ, ◌+◌, ◌≤◌, ◌<◌}
use native.Mathlib.Omega.{arith}
use lib.ListN.{length, get_or}
use lib.Ieee.{Float}
use borrow.Author.Tests.{ltb-false, le-ltb, not-false}
use Rattle.error.specs.Answer.{Accepted}
use Rattle.error.proofs.Checks.{refuse_if-accepted, refuse_unequal-accepted, next-accepted}
use Rattle.graph_checks.specs.Pattern.{Pattern}
use Rattle.graph_checks.specs.PatternChecks.{pattern_fault}
use Rattle.graph_checks.proofs.First.{refuse_first-accepted}
use Rattle.graph_checks.proofs.Sound.{pattern-accepted, values-accepted}
use Rattle.graph_traj_breakpoints.specs.Breakpoints.{breakpoint, Breakpoints}
use Rattle.graph_traj_parts.specs.Trajectory.{Trajectory, Counts, Lists, AcceptedTrajectory, FromZero, AcceptedAdjointTrajectory}
use Rattle.graph_traj_breakpoints.specs.LookupChecks.{breakpoints_fault}
use Rattle.graph_traj_lists.specs.ListChecks.{laws_fault, counts_fault, lists_fault}
use Rattle.graph_traj_parts.specs.TrajectoryChecks.{first_breakpoint_fault, one_segment_fault}
use Rattle.graph_traj_parts.specs.TrajectoryChecks.{trajectory_counts_fault, trajectory_fault, adjoint_trajectory_fault}
use Rattle.graph_traj_breakpoints.proofs.LookupSound.{segment-count-accepted, pool-count-accepted, breakpoints-accepted}

-- ---- the rows of the table

pub one-segment-accepted : (segments : ℕ) → (one_segment_fault segments ≡ Accepted) ↔ (segments ≡ 1)
unfolding one_segment_fault
one-segment-accepted segments = refuse_unequal-accepted segments 1 _

pub first-breakpoint-accepted : (breakpoints : List Float)
    → (first_breakpoint_fault (breakpoint breakpoints 0) ≡ Accepted) ↔ FromZero breakpoints
unfolding first_breakpoint_fault
first-breakpoint-accepted breakpoints = (
  λ h. record { first = not-false _ ((refuse_if-accepted _ _).0 h) },
  λ p. (refuse_if-accepted _ _).1 (ap not p.first),
)

pub laws-accepted : (laws : List ℕ) → (laws_fault laws ≡ Accepted) ↔ ((k : ℕ) → k < length laws → get_or laws k 0 ≤ 2)
unfolding laws_fault
laws-accepted laws = (
  λ h k l. ltb-false _ _ ((refuse_first-accepted _ _ _).0 h k l),
  λ h. (refuse_first-accepted _ _ _).1 (λ k l. le-ltb _ _ (h k l)),
)

-- ---- the groups of rows

pub counts-accepted : (t : Trajectory) → (trajectory_counts_fault t ≡ Accepted) ↔ Counts t
unfolding counts_fault
counts-accepted t = (
  λ h.
      let times = (next-accepted _ _).0 h in
      let starts = (next-accepted _ _).0 times.1 in
      let ends = (next-accepted _ _).0 starts.1 in
      record {
        of-breakpoints = (pool-count-accepted _ _).0 times.0;
        of-starts = (pool-count-accepted _ _).0 starts.0;
        of-ends = (pool-count-accepted _ _).0 ends.0;
        of_laws = (pool-count-accepted _ _).0 ends.1;
      },
  λ c.
      (next-accepted _ _).1 (
        (pool-count-accepted _ _).1 c.of-breakpoints,
        (next-accepted _ _).1 (
          (pool-count-accepted _ _).1 c.of-starts,
          (next-accepted _ _).1 ((pool-count-accepted _ _).1 c.of-ends, (pool-count-accepted _ _).1 c.of_laws),
        ),
      ),
)

-- the first of them alone
pub breakpoints-counted : (segments columns breakpoints starts ends laws : ℕ)
    → counts_fault segments columns breakpoints starts ends laws ≡ Accepted
    → breakpoints ≡ segments + 1
unfolding counts_fault
breakpoints-counted segments columns breakpoints starts ends laws h = (pool-count-accepted _ _).0 ((next-accepted _ _).0 h).0

pub lists-accepted : (t : Trajectory) → (lists_fault t.laws t.starts t.ends ≡ Accepted) ↔ Lists t
unfolding lists_fault
lists-accepted t = (
  λ h.
      let laws = (next-accepted _ _).0 h in
      let pools = (next-accepted _ _).0 laws.1 in
      record {
        known-laws = (laws-accepted t.laws).0 laws.0;
        finite-starts = (values-accepted t.starts).0 pools.0;
        finite-ends = (values-accepted t.ends).0 pools.1;
      },
  λ l.
      (next-accepted _ _).1 (
        (laws-accepted t.laws).1 l.known-laws,
        (next-accepted _ _).1
            ((values-accepted t.starts).1 l.finite-starts, (values-accepted t.ends).1 l.finite-ends),
      ),
)

-- ---- the whole checks

module _ (t : Trajectory) where
  abbrev IsPattern : Type 0
  IsPattern = Pattern t.nodes t.row_starts t.cols

  pattern-is : (pattern_fault t.nodes t.row_starts t.cols ≡ Accepted) ↔ IsPattern
  pattern-is = pattern-accepted t.nodes t.row_starts t.cols

  -- the breakpoints of so many segments, as row 15 tests them
  times-are : 0 < t.segments
      → t.segments ≤ 65535
      → Counts t
      → (breakpoints_fault t.breakpoints ≡ Accepted) ↔ Breakpoints t.segments t.breakpoints
  times-are some few counts = breakpoints-accepted t.segments t.breakpoints some few counts.of-breakpoints

  pub trajectory-accepted : (trajectory_fault t ≡ Accepted) ↔ AcceptedTrajectory t
  unfolding trajectory_fault
  trajectory-accepted = (says, holds)
    where
      says : trajectory_fault t ≡ Accepted → AcceptedTrajectory t
      says h =
          let pattern = (next-accepted _ _).0 h in
          let number = (next-accepted _ _).0 pattern.1 in
          let counts = (next-accepted _ _).0 number.1 in
          let rising = (next-accepted _ _).0 counts.1 in
          let some = (segment-count-accepted t.segments).0 number.0 in
          let counted = (counts-accepted t).0 counts.0 in
          record {
            pattern = pattern-is.0 pattern.0;
            times = (times-are some.0 some.1 counted).0 rising.0;
            counts = counted;
            lists = (lists-accepted t).0 rising.1;
          }

      holds : AcceptedTrajectory t → trajectory_fault t ≡ Accepted
      holds a =
          let times = a.times in
          (next-accepted _ _).1 (
            pattern-is.1 a.pattern,
            (next-accepted _ _).1 (
              (segment-count-accepted t.segments).1 (times.some-segments, times.few-segments),
              (next-accepted _ _).1 (
                (counts-accepted t).1 a.counts,
                (next-accepted _ _).1 (
                  (times-are times.some-segments times.few-segments a.counts).1 times,
                  (lists-accepted t).1 a.lists,
                ),
              ),
            ),
          )

  pub adjoint-trajectory-accepted : (adjoint_trajectory_fault t ≡ Accepted) ↔ AcceptedAdjointTrajectory t
  unfolding adjoint_trajectory_fault
  adjoint-trajectory-accepted = (says, holds)
    where
      says : adjoint_trajectory_fault t ≡ Accepted → AcceptedAdjointTrajectory t
      says h =
          let pattern = (next-accepted _ _).0 h in
          let number = (next-accepted _ _).0 pattern.1 in
          let counts = (next-accepted _ _).0 number.1 in
          let rising = (next-accepted _ _).0 counts.1 in
          let zero = (next-accepted _ _).0 rising.1 in
          let one = (one-segment-accepted t.segments).0 number.0 in
          let counted = (counts-accepted t).0 counts.0 in
          record {
            accepted = record {
              pattern = pattern-is.0 pattern.0;
              times = (times-are (omega arith) (omega arith) counted).0 rising.0;
              counts = counted;
              lists = (lists-accepted t).0 zero.1;
            };
            one-segment = one;
            from_zero = (first-breakpoint-accepted t.breakpoints).0 zero.0;
          }

      holds : AcceptedAdjointTrajectory t → adjoint_trajectory_fault t ≡ Accepted
      holds a =
          let b = a.accepted in
          let times = b.times in
          (next-accepted _ _).1 (
            pattern-is.1 b.pattern,
            (next-accepted _ _).1 (
              (one-segment-accepted t.segments).1 a.one-segment,
              (next-accepted _ _).1 (
                (counts-accepted t).1 b.counts,
                (next-accepted _ _).1 (
                  (times-are times.some-segments times.few-segments b.counts).1 times,
                  (next-accepted _ _).1 (
                    (first-breakpoint-accepted t.breakpoints).1 a.from_zero,
                    (lists-accepted t).1 b.lists,
                  ),
                ),
              ),
            ),
          )
