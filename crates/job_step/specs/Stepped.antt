-- What the contracts of the job's steps cite, and their proofs. Assumes nothing.
use Rattle.std.specs.Prelude.{◌≡◌, Bool, List, ℕ, ◌≤◌, Float}
use Rattle.error.specs.Refusals.{Answers}
use Rattle.error.specs.Answer.{Checked}
use Rattle.job_format.specs.JobFormat.{Job, job_nodes, job_entries}

-- a job that the program's arrays have room for
pub record Small (bytes : List ℕ) : Type 0 where
  pub nodes : job_nodes bytes ≤ 64
  pub entries : job_entries bytes ≤ 512

-- lists that are those fields of the job which every step takes
pub record Fields (job : Job) (starts cols : List ℕ) (vals1 vals2 signal : List Float) : Type 0 where
  pub starts-are : starts ≡ job.starts
  pub cols-are : cols ≡ job.cols
  pub vals1-are : vals1 ≡ job.vals1
  pub vals2-are : vals2 ≡ job.vals2
  pub signal-is : signal ≡ job.signal

-- the numbers of the job
pub record Numbers (job : Job) (tau bound root_bound : Float) (checked adjoint : Bool) : Type 0 where
  pub tau-is : tau ≡ job.tau
  pub bound-is : bound ≡ job.bound
  pub root-bound-is : root_bound ≡ job.root_bound
  pub checked-is : checked ≡ job.checked
  pub adjoint-is : adjoint ≡ job.adjoint

-- a step was taken: its answer, and the output afterwards
pub record Taken (answer fault : Checked) (output left : List Float) : Type 0 where
  pub answers : Answers answer fault
  pub output-is : output ≡ left
