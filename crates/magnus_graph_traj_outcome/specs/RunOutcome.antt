-- What a run answers and leaves (01, parts 8 and 10), and what demand 3 says of it. One text for the forward run, the adjoint one and the
-- weighted one: what a run does in each step is a field of it. Assumes nothing.
use Rattle.std.specs.Prelude.{◌≡◌, Bool, cond, List, ℕ, T, eqb, length, Float}
use Rattle.arithmetic.specs.SameList.{SameList}
use Rattle.scratch.specs.Parts.{put, zeros}
use Rattle.error.specs.Answer.{Checked}
use Rattle.error.specs.Answer.{Accepted}
use Rattle.error.specs.Checks.{next, if_accepted}
use Rattle.error.specs.Refusals.{Answers}
use Rattle.magnus_plain_sum.specs.Formed.{FormedOperator}
use Rattle.magnus_plain_sum.specs.Run.{run_along, every_step, formed_along}
use Rattle.magnus_graph_outcome.specs.StepOutcome.{forward, adjoint}
use Rattle.graph_traj_parts.specs.Trajectory.{Trajectory}
use Rattle.graph_traj_faults.specs.RunChecks.{run_need, run_fault}
use Rattle.graph_traj_adjoint_faults.specs.AdjointRunChecks.{adjoint_run_fault}
use Rattle.magnus_graph_traj_steps.specs.RunSteps.{RunStep, Course, forward_course, adjoint_course, run_step_fault, run_step_image}
use Rattle.magnus_graph_traj_steps.specs.RunSteps.{first_fault}
use Rattle.magnus_graph_traj_outcome.specs.PlainSteps.{formed_run_step, step_agrees, plain_step}

-- what a run does in each step
pub record Stepping : Type 0 where
  -- the refusal that the step meets, if any
  pub fault : RunStep → Checked
  -- the held signal after the step, and the same with whether every number formed is finite
  pub image : RunStep → List Float → List Float
  pub formed : RunStep → FormedOperator
  -- demand 3's premises on the step, and the step of the plain run
  pub agrees : RunStep → Bool
  pub plain : RunStep → List Float → List Float

-- a run with its arguments: what its checks answer before the first step, its steps in order and what it does in each, the need of
-- its work slice, and what it is lent
pub record Run : Type 0 where
  pub checks : Checked
  pub steps : List RunStep
  pub stepping : Stepping
  pub need : ℕ
  pub signal : List Float
  pub output : List Float
  pub work : List Float

-- ---- the unweighted runs

-- the steps of an unweighted run, with the commutator's sign
abbrev pub run_stepping : Trajectory → Course → Float → Stepping
run_stepping t course sign = record {
  fault = run_step_fault t course;
  image = run_step_image t course sign;
  formed = formed_run_step t course sign;
  agrees = step_agrees t course;
  plain = plain_step t course;
}

-- the forward run, with so many steps in each segment
abbrev pub forward_run : Trajectory → ℕ → Float → Bool → List Float → List Float → List Float → Run
forward_run t steps bound checked signal output work =
    let course = forward_course t.breakpoints t.segments steps in
    record {
      checks = run_fault t steps bound checked (length signal) (length output) (length work);
      steps = course.steps;
      stepping = run_stepping t course forward;
      need = run_need t;
      signal = signal;
      output = output;
      work = work;
    }

-- the adjoint run of N steps of length τ
abbrev pub adjoint_run : Trajectory → Float → ℕ → Float → Bool → List Float → List Float → List Float → Run
adjoint_run t τ N bound checked signal output work =
    let course = adjoint_course τ N in
    record {
      checks = adjoint_run_fault t τ N bound checked (length signal) (length output) (length work);
      steps = course.steps;
      stepping = run_stepping t course adjoint;
      need = run_need t;
      signal = signal;
      output = output;
      work = work;
    }

-- ---- the outcome

module _ (run : Run) where
  -- the answer: the first fault of the checks, and then of the steps
  abbrev pub run_answer : Checked
  run_answer = next run.checks (first_fault run.stepping.fault run.steps)

  -- the output afterwards: the held signal after the last step where nothing is refused, else as it was
  abbrev pub run_output : List Float
  run_output = if_accepted run_answer (run_along run.stepping.image run.steps run.signal) run.output

  -- the work slice afterwards: as it was where a check refuses or there is no step; else its needed part is +0, also where a step
  -- refuses
  abbrev pub run_work : List Float
  run_work =
      if_accepted run.checks
      (cond (eqb (length run.steps) 0) run.work (put 0 (zeros run.need) run.work))
      run.work

  -- Demand 3, one claim about the whole run: where nothing is refused, demand 3's premises hold of each step (its samples agree, and a
  -- weighted step's weights too, and its τ is 0 or at least 2 ^ -1021), and every number formed is finite, the output is that of the
  -- plain run of degree 4, up to the sign of a zero.
  abbrev pub PlainRun : List Float → Type 0
  PlainRun output =
      run_answer ≡ Accepted
      → T (every_step run.stepping.agrees run.steps)
      → T (formed_along run.stepping.formed run.steps run.signal)
      → SameList output (run_along run.stepping.plain run.steps run.signal)

  -- what a run promises: its answer has the number and values of the first fault, and each lent slice afterwards
  pub record Ran (answer : Checked) (output work : List Float) : Type 0 where
    pub answers : Answers answer run_answer
    pub output-is : output ≡ run_output
    pub work-is : work ≡ run_work
    pub plain : PlainRun output
