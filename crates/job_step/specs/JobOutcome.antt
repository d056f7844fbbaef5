-- The step that a job asks for, and what the job's answer is (01, "The job program"). Assumes nothing.
use Rattle.std.specs.Prelude.{cond, List, ℕ, ◌*◌, Float}
use Rattle.scratch.specs.Parts.{zeros}
use Rattle.error.specs.Checks.{next}
use Rattle.error.specs.Answer.{Checked}
use Rattle.magnus_graph_faults.specs.StepChecks.{Sample, sample}
use Rattle.magnus_graph_outcome.specs.StepOutcome.{StepInput, step_input, step_answer, step_output, forward, adjoint}
use Rattle.varcoef_magnus_graph_outcome.specs.StepOutcome.{StepInput as WeightedInput, step_input as weighted_input}
use Rattle.varcoef_magnus_graph_outcome.specs.StepOutcome.{step_answer as weighted_answer, step_output as weighted_output}
use Rattle.magnus6_graph_outcome.specs.StepOutcome.{Step6Input, step6_input, step6_answer, step6_output}
use Rattle.job_format.specs.JobFormat.{Job, job_of, malformed_fault}

module _ (job : Job) where
  -- a sample with these values; all samples have the job's pattern
  abbrev pub with_values : List Float → Sample
  with_values vals = sample job.nodes job.starts job.cols vals

  -- the commutator's sign
  unfoldable pub job_sign : Float
  job_sign = cond job.adjoint adjoint forward

  -- What each kind of step is lent: the fields of the job, an output of n places and a work slice of the step's need, both +0.
  unfoldable pub job_step : StepInput
  job_step =
      step_input (with_values job.vals1) (with_values job.vals2) job.tau job.bound job.checked job.signal
      (zeros job.nodes) (zeros (5 * job.nodes))

  unfoldable pub job_weighted_step : WeightedInput
  job_weighted_step =
      weighted_input (with_values job.vals1) (with_values job.vals2) job.tau job.bound job.root_bound job.checked
      job.weights1 job.weights2 job.signal (zeros job.nodes) (zeros (9 * job.nodes))

  unfoldable pub job_step6 : Step6Input
  job_step6 =
      step6_input (with_values job.vals1) (with_values job.vals2) (with_values job.vals3) job.tau job.bound job.checked
      job.signal (zeros job.nodes) (zeros (22 * job.nodes))

  -- what the step answers: bit 3 selects order 6, bit 6 the weighted step of order 4
  unfoldable pub job_step_answer : Checked
  job_step_answer =
      cond job.order6 (step6_answer job_step6)
      (cond job.weighted (weighted_answer job_sign job_weighted_step) (step_answer job_sign job_step))

  -- its output afterwards
  unfoldable pub job_step_output : List Float
  job_step_output =
      cond job.order6 (step6_output job_step6)
      (cond job.weighted (weighted_output job_sign job_weighted_step) (step_output job_sign job_step))

-- what a job answers: row 21, and then what its step does
unfoldable pub job_answer : List ℕ → Checked
job_answer bytes = next (malformed_fault bytes) (job_step_answer (job_of bytes))

-- what an accepted job gives
unfoldable pub job_output : List ℕ → List Float
job_output bytes = job_step_output (job_of bytes)
