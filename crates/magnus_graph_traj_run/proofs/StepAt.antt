-- One step of an unweighted run, told by the value of its segment, is the step of the run's course. Assumes nothing.
use mathlib.Core.Path.{◌≡◌, ap, ◌∙◌, subst₂}
use mathlib.Core.List.{List, [], ◌∷◌}
use Prim.Native.Nat.{ℕ, ◌+◌}
use lib.Ieee.{Float}
use Rattle.error.specs.Answer.{Checked}
use Rattle.magnus_graph_outcome.specs.StepOutcome.{forward, adjoint}
use Rattle.graph_traj_segment.specs.declared.kernel.Segment.{Segment}
use Rattle.graph_traj_segment.specs.Times.{step_start, adjoint_step_start}
use Rattle.graph_traj_breakpoints.specs.Breakpoints.{breakpoint}
use Rattle.graph_traj_parts.specs.Trajectory.{Trajectory}
use Rattle.graph_traj_faults.specs.RunChecks.{tau_of, run_need}
use Rattle.magnus_graph_traj_steps.specs.RunSteps.{Course, step_in, forward_course, adjoint_course, sample_at, run_step_fault, run_step_image}
use Rattle.magnus_graph_traj_steps.specs.StepsTaken.{RunStepsTaken}
use Rattle.magnus_graph_traj_steps.proofs.Courses.{forward-tau, forward-start, adjoint-tau, adjoint-start}
use Rattle.magnus_graph_traj_steps.proofs.StepsTaken.{one-taken}
use Rattle.magnus_graph_traj_steps.proofs.Walk.{StepsWalked}
use Rattle.magnus_graph_traj_run.specs.StepAt.{StepAt}

-- the segment from breakpoint k to the next, with so long steps, before its step j
abbrev pub segment_at : Trajectory → ℕ → Float → ℕ → Segment
segment_at t k τ j = record { start = breakpoint t.breakpoints k; end = breakpoint t.breakpoints (k + 1); tau = τ; step = j }

-- the step is the course's, where the segment's value tells the course's τ and start
step-of-course : (t : Trajectory) (course : Course) (sign : Float) (k j : ℕ) (τ : Float) (start_of : Segment → Float) {segment : Segment}
    {start : Float} {answer : Checked} {w w' : List Float}
    → τ ≡ course.tau (step_in k j)
    → start_of (segment_at t k τ j) ≡ course.start (step_in k j)
    → segment ≡ segment_at t k τ j
    → start ≡ start_of segment
    → StepAt t k segment start sign answer w w'
    → RunStepsTaken t course sign (step_in k j ∷ []) answer w w'
unfolding run_step_fault sample_at
step-of-course t course sign k j τ start_of {segment} {start} {answer} {w} {w'} long starts here begun taken =
    let same : StepAt t k (segment_at t k (course.tau (step_in k j)) j) (course.start (step_in k j)) sign answer w w' =
    subst₂ (λ (s : Segment) (b : Float). StepAt t k s b sign answer w w')
    (here ∙ ap (λ (x : Float). segment_at t k x j) long) (begun ∙ ap start_of here ∙ starts) taken in
    one-taken (step_in k j) same.answer same.taken same.length-kept same.rest

-- forward, and adjoint in the one segment
pub forward-step : (t : Trajectory) (steps i j : ℕ) {segment : Segment} {start : Float} {answer : Checked} {w w' : List Float}
    → segment ≡ segment_at t i (tau_of t.breakpoints steps i) j
    → start ≡ step_start segment.start segment.tau segment.step
    → StepAt t i segment start forward answer w w'
    → RunStepsTaken t (forward_course t.breakpoints t.segments steps) forward (step_in i j ∷ []) answer w w'
forward-step t steps i j =
    step-of-course t _ forward i j _ (λ s. step_start s.start s.tau s.step)
    (forward-tau t.breakpoints t.segments steps i j) (forward-start t.breakpoints t.segments steps i j)

pub adjoint-step : (t : Trajectory) (τ : Float) (N k : ℕ) {segment : Segment} {start : Float} {answer : Checked} {w w' : List Float}
    → segment ≡ segment_at t 0 τ k
    → start ≡ adjoint_step_start segment.tau N segment.step
    → StepAt t 0 segment start adjoint answer w w'
    → RunStepsTaken t (adjoint_course τ N) adjoint (step_in 0 k ∷ []) answer w w'
adjoint-step t τ N k =
    step-of-course t _ adjoint 0 k _ (λ s. adjoint_step_start s.tau N s.step) (adjoint-tau τ N k) (adjoint-start τ N k)

-- a loop over the steps of segment k: j of them were taken
abbrev pub StepsWalkedAt : Trajectory → Course → Float → ℕ → Float → ℕ → ℕ → List Float → List Float → Segment → Type 0
StepsWalkedAt t course sign k τ = StepsWalked (run_step_fault t course) (run_step_image t course sign) t.nodes (run_need t) (segment_at t k τ 0) k
