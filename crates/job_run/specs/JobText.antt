-- What the job program prints (01, "The job program"). Assumes nothing.
use Rattle.std.specs.Prelude.{List, ℕ}
use Rattle.job_answer.specs.AnswerText.{AnswerText}
use Rattle.job_step.specs.JobOutcome.{job_answer, job_output}

-- a text of the job: that of its answer, with the values that it gives
pub record JobText (job text : List ℕ) : Type 0 where
  pub is : AnswerText (job_answer job) (job_output job) text
