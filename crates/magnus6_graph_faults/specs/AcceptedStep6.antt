-- What an accepted step of order 6 has. proofs/Step6Sound.antt shows that the checks accept exactly these. Assumes nothing.
use Rattle.std.specs.Prelude.{◌≡◌, Bool, ℕ, ◌*◌, Float}
use Rattle.graph_checks.specs.Pattern.{Laplacian}
use Rattle.magnus_graph_faults.specs.StepChecks.{Sample}
use Rattle.magnus_graph_faults.specs.AcceptedStep.{Positive, StepInputs}

-- an accepted step of order 6: its third sample is a Laplacian on the same nodes too
pub record AcceptedStep6 (first second third : Sample) (τ bound : Float) (checked : Bool) (signal output work : ℕ) : Type 0 where
  pub inputs : StepInputs first second τ bound checked signal output work (22 * first.nodes)
  pub spectral-bound : Positive bound
  pub laplacian3 : Laplacian first.nodes third.starts third.cols third.vals
  pub same-nodes3 : third.nodes ≡ first.nodes
