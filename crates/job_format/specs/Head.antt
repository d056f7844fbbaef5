-- With what the bytes of a job start. Assumes nothing.
use Rattle.std.specs.Prelude.{◌≡◌, List, ℕ, ◌<◌}
use Rattle.job_format.specs.JobFormat.{job_map, job_nodes, job_entries}

-- a map, an n and an m that are the job's; they are numbers of 16 bits
pub record Head (bytes : List ℕ) (map nodes entries : ℕ) : Type 0 where
  pub map-is : map ≡ job_map bytes
  pub nodes-is : nodes ≡ job_nodes bytes
  pub entries-is : entries ≡ job_entries bytes
  pub map-fits : map < 65536
  pub nodes-fit : nodes < 65536
  pub entries-fit : entries < 65536
