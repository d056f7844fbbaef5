-- Which steps a run takes: how many there are, and that τ and the start of each are those that the value of its segment tells, which a
-- loop passes on from step to step. Assumes nothing.
use mathlib.Core.Path.{◌≡◌, refl}
use mathlib.Core.List.{List, [], ◌∷◌, ◌++◌}
use Prim.Native.Nat.{ℕ, zero, suc, ◌+◌, ◌*◌}
use native.Mathlib.Nat.{suc-mul}
use native.Mathlib.Omega.{arith}
use lib.ListN.{length, length-append}
use lib.Ieee.{Float}
use Rattle.arithmetic.specs.Vector.{tabulate}
use Rattle.arithmetic.proofs.Tabulate.{length-tabulate}
use Rattle.graph_traj_segment.specs.declared.kernel.Segment.{Segment}
use Rattle.graph_traj_segment.specs.SegmentValue.{segment_of}
use Rattle.graph_traj_segment.specs.Times.{step_start, adjoint_step_start}
use Rattle.graph_traj_breakpoints.specs.Breakpoints.{breakpoint}
use Rattle.magnus_graph_traj_steps.specs.RunSteps.{step_in, segment_steps, all_steps, forward_course, adjoint_course}

-- ---- how many

-- a segment has so many steps
pub segment-count : (i steps : ℕ) → length (segment_steps i steps) ≡ steps
segment-count i steps = length-tabulate _ steps

-- and all segments together so many each
pub all-count : (steps segments : ℕ) → length (all_steps steps segments) ≡ segments * steps
unfolding all_steps
all-count steps zero = omega arith
all-count steps (suc i) =
    let before = all_steps steps i in
    let both : length (before ++ segment_steps i steps) ≡ length before + length (segment_steps i steps) = length-append before _ in
    omega (arith, both, all-count steps i, segment-count i steps, suc-mul i steps)

-- ---- how they grow

-- before the first nothing is taken
pub no_steps : (k : ℕ) → segment_steps k 0 ≡ []
unfolding tabulate
no_steps k = refl

pub no-segments : (steps : ℕ) → all_steps steps 0 ≡ []
unfolding all_steps
no-segments steps = refl

-- the steps of a segment grow by one, those of all segments by a segment's
pub segment-grows : (i j : ℕ) → segment_steps i (suc j) ≡ segment_steps i j ++ (step_in i j ∷ [])
unfolding tabulate
segment-grows i j = refl

pub all-grow : (steps i : ℕ) → all_steps steps (suc i) ≡ all_steps steps i ++ segment_steps i steps
unfolding all_steps
all-grow steps i = refl

-- ---- where they lie

-- the value of a segment before its step j
abbrev pub segment_before : Segment → ℕ → Segment
segment_before first j = record { start = first.start; end = first.end; tau = first.tau; step = j }

-- forward, step j of segment i has the τ of the segment from breakpoint i to the next, and starts at its start + j·τ
module _ (breakpoints : List Float) (segments steps i j : ℕ) where
  abbrev in_segment : Segment
  in_segment = segment_before (segment_of (breakpoint breakpoints i) (breakpoint breakpoints (i + 1)) steps) j

  pub forward-tau : in_segment.tau ≡ (forward_course breakpoints segments steps).tau (step_in i j)
  forward-tau = refl

  pub forward-start : step_start in_segment.start in_segment.tau j ≡ (forward_course breakpoints segments steps).start (step_in i j)
  forward-start = refl

-- adjoint, step k of N has the τ that is given, and starts at (N - 1 - k)·τ
module _ (τ : Float) (N k : ℕ) where
  pub adjoint-tau : τ ≡ (adjoint_course τ N).tau (step_in 0 k)
  adjoint-tau = refl

  pub adjoint-start : adjoint_step_start τ N k ≡ (adjoint_course τ N).start (step_in 0 k)
  adjoint-start = refl
