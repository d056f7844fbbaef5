-- The steps of a run along a trajectory (01, parts 8 and 10): in which order they are taken, how long each is, where its samples
-- lie, and what it does with the held signal. The samples and the order of the steps are the same text for forward and adjoint runs.
-- Assumes nothing.
use Rattle.std.specs.Prelude.{List, [], ◌∷◌, ◌++◌, ℕ, zero, suc, ◌+◌, ◌*◌, length, get_or, Float}
use Rattle.std.specs.Float.{binary64}
use Rattle.arithmetic.specs.Vector.{tabulate}
use Rattle.scratch.specs.Parts.{part}
use Rattle.error.specs.Checks.{next}
use Rattle.error.specs.Answer.{Checked}
use Rattle.error.specs.Answer.{Accepted}
use Rattle.graph_rows.specs.RowProduct.{row_product64}
use Rattle.magnus_graph_outcome.specs.Omega4.{sqrt3_over12}
use Rattle.magnus_graph_step.specs.Omega4.{exp_omega4}
use Rattle.graph_traj_segment.specs.Times.{fraction}
use Rattle.graph_traj_laws.specs.Laws.{values_at}
use Rattle.graph_traj_breakpoints.specs.Breakpoints.{breakpoint}
use Rattle.graph_traj_segment.specs.Times.{c1, c2, step_start, adjoint_step_start, sample_time}
use Rattle.graph_traj_parts.specs.Trajectory.{Trajectory}
use Rattle.graph_traj_samples.specs.Sampled.{sampled_fault}
use Rattle.graph_traj_faults.specs.RunChecks.{tau_of}

-- ---- which steps

-- a step of a run: the segment in which it lies, and its number there
pub record RunStep : Type 0 where
  pub segment : ℕ
  pub number : ℕ

-- step j of segment i
abbrev pub step_in : ℕ → ℕ → RunStep
step_in i j = record { segment = i; number = j }

-- the first so many steps of segment i
abbrev pub segment_steps : ℕ → ℕ → List RunStep
segment_steps i steps = tabulate (step_in i) steps

-- all steps of the first so many segments, segment by segment
unfoldable pub all_steps : ℕ → ℕ → List RunStep
all_steps steps zero = []
all_steps steps (suc i) = all_steps steps i ++ segment_steps i steps

-- How a run goes: its steps in the order in which they are taken, and of each step its τ and its start.
pub record Course : Type 0 where
  pub steps : List RunStep
  pub tau : RunStep → Float
  pub start : RunStep → Float

-- forward (01, part 10): segment by segment, with the segment's τ; step j starts at start + j·τ
abbrev pub forward_course : List Float → ℕ → ℕ → Course
forward_course breakpoints segments steps = record {
  steps = all_steps steps segments;
  tau = λ s. tau_of breakpoints steps s.segment;
  start = λ s. step_start (breakpoint breakpoints s.segment) (tau_of breakpoints steps s.segment) s.number;
}

-- adjoint (01, part 8): N steps of the one segment, with the τ given; step k starts at (N - 1 - k)·τ
abbrev pub adjoint_course : Float → ℕ → Course
adjoint_course τ N = record {
  steps = segment_steps 0 N;
  tau = λ s. τ;
  start = λ s. adjoint_step_start τ N s.number;
}

-- ---- what a step does

module _ (t : Trajectory) (course : Course) where
  -- how far the sample at the Gauss node c of a step is on its way through the segment
  abbrev pub fraction_at : RunStep → Float → Float
  fraction_at s c =
      let k = s.segment in
      let time = sample_time (course.start s) c (course.tau s) in
      fraction time (breakpoint t.breakpoints k) (breakpoint t.breakpoints (k + 1))

  -- the values of that sample, by the law of the segment
  unfoldable pub sample_at : RunStep → Float → List Float
  sample_at s c =
      let k = s.segment in
      let m = length t.cols in
      values_at (get_or t.laws k 0) m (fraction_at s c) (part (k * m) m t.starts) (part (k * m) m t.ends)

  -- the products with its two samples
  abbrev pub product : RunStep → Float → List Float → List Float
  product s c = row_product64 t.nodes t.row_starts t.cols (sample_at s c)

  -- row 20 for the first sample, then for the second
  unfoldable pub run_step_fault : RunStep → Checked
  run_step_fault s = next (sampled_fault (sample_at s c1)) (sampled_fault (sample_at s c2))

  -- the held signal after the step
  abbrev pub run_step_image : Float → RunStep → List Float → List Float
  run_step_image sign s = exp_omega4 binary64 t.nodes sqrt3_over12 sign (course.tau s) (product s c1) (product s c2)

-- the first refusal among the steps, in the order in which they are taken
unfoldable pub first_fault : {S : Type 0} → (S → Checked) → List S → Checked
first_fault fault [] = Accepted
first_fault fault (s ∷ ss) = next (fault s) (first_fault fault ss)
