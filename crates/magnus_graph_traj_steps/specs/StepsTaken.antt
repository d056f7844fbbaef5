-- What the loops of a run promise (01, parts 8 and 10): steps that were taken one after the other in the work slice in which the signal
-- is held. What a step answers and does with the signal is left open: it is another for weighted runs. Assumes nothing.
use Rattle.std.specs.Prelude.{◌≡◌, List, ℕ, ◌≤◌, length, drop, Float}
use Rattle.scratch.specs.Parts.{part}
use Rattle.error.specs.Answer.{Checked}
use Rattle.error.specs.Answer.{Accepted}
use Rattle.magnus_plain_sum.specs.Run.{run_along}
use Rattle.graph_traj_parts.specs.Trajectory.{Trajectory}
use Rattle.graph_traj_faults.specs.RunChecks.{run_need}
use Rattle.magnus_graph_traj_steps.specs.RunSteps.{RunStep, Course, run_step_fault, run_step_image, first_fault}

-- These steps of a run on n nodes were taken in the work slice w, now w': the answer is the first fault among them, and where there is
-- none, the vector at 0 is the signal that is held after them. From index `need` on w is as it was.
pub record StepsTaken (fault : RunStep → Checked) (image : RunStep → List Float → List Float) (n need : ℕ) (steps : List RunStep)
    (answer : Checked) (w w' : List Float) : Type 0 where
  pub answer-is : answer ≡ first_fault fault steps
  pub held : answer ≡ Accepted → part 0 n w' ≡ run_along image steps (part 0 n w)
  pub length-kept : length w' ≡ length w
  pub rest : (j : ℕ) → need ≤ j → drop j w' ≡ drop j w

-- those of an unweighted run, whose work slice has 7n + 2m numbers
abbrev pub RunStepsTaken : Trajectory → Course → Float → List RunStep → Checked → List Float → List Float → Type 0
RunStepsTaken t course sign = StepsTaken (run_step_fault t course) (run_step_image t course sign) t.nodes (run_need t)
