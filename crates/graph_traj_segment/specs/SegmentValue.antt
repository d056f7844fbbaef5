-- The value of a segment that a run passes on from step to step (01, "From Rust's forms to Rattle's"): its start and end, τ and the
-- number of the step that comes next. Assumes nothing.
use Rattle.std.specs.Prelude.{ℕ, ◌+◌, Float}
use Rattle.graph_traj_segment.specs.Times.{segment_tau}
use Rattle.graph_traj_segment.specs.declared.kernel.Segment.{Segment}

-- a segment with a given τ, before its first step: an adjoint run's
abbrev pub segment_with : Float → Float → Float → Segment
segment_with start end τ = record { start = start; end = end; tau = τ; step = 0 }

-- a segment of so many steps, before its first step: a forward run's
abbrev pub segment_of : Float → Float → ℕ → Segment
segment_of start end steps = segment_with start end (segment_tau start end steps)

-- the segment after its next step
abbrev pub next_step : Segment → Segment
next_step s = record { start = s.start; end = s.end; tau = s.tau; step = s.step + 1 }
