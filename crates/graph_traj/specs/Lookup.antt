-- The segment of a trajectory in which a time lies (01, part 10, `segment_index`). Segment i goes from breakpoint i to breakpoint
-- i + 1. proofs/Lookup.antt shows that `segment_at` is the one segment that holds the time. Assumes nothing.
use Rattle.std.specs.Prelude.{◌≡◌, ◌⊎◌, true, List, ℕ, ◌+◌, ◌<◌, Float}
use Rattle.std.specs.Float.Ieee.{lt, le}
use Rattle.graph_traj_breakpoints.specs.Breakpoints.{breakpoint}
use Rattle.graph_traj.specs.Greatest.{greatest}

-- the segment in which t lies: the greatest i below the segment count with breakpoint i ≤ t
unfoldable pub segment_at : ℕ → List Float → Float → ℕ
segment_at segments breakpoints t = greatest (λ i. le (breakpoint breakpoints i) t) segments

-- ---- what `segment_at` says

-- Segment i holds t: it is one of the segments, and t lies from breakpoint i on and below breakpoint i + 1, which belongs to the
-- next segment (right-continuous); but the last breakpoint belongs to the last segment.
pub record Holds (segments : ℕ) (breakpoints : List Float) (t : Float) (i : ℕ) : Type 0 where
  pub a-segment : i < segments
  pub from_start : le (breakpoint breakpoints i) t ≡ true
  pub to_end :
      (lt t (breakpoint breakpoints (i + 1)) ≡ true)
      ⊎ ((i + 1 ≡ segments) × (le t (breakpoint breakpoints (i + 1)) ≡ true))
