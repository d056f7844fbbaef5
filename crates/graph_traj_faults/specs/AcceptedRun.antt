-- What an accepted forward run has. proofs/RunSound.antt shows that the checks accept exactly these. Assumes nothing.
use Rattle.std.specs.Prelude.{◌≡◌, Bool, ℕ, ◌≤◌, ◌<◌, Float}
use Rattle.graph_traj_parts.specs.Trajectory.{Trajectory, AcceptedTrajectory, FromZero}
use Rattle.magnus_graph_faults.specs.AcceptedStep.{Positive, WithinRadius}
use Rattle.graph_traj_faults.specs.RunChecks.{tau_of, run_need}

-- the signal and the output have n places (row 10)
pub record Signals (n signal output : ℕ) : Type 0 where
  pub signal-length : signal ≡ n
  pub output-length : output ≡ n

-- a forward run
pub record AcceptedRun (t : Trajectory) (steps : ℕ) (bound : Float) (checked : Bool) (signal output work : ℕ) : Type 0 where
  pub along : AcceptedTrajectory t
  pub spectral-bound : Positive bound
  -- row 16
  pub some-steps : 0 < steps
  pub few-steps : steps ≤ 65535
  pub from_zero : FromZero t.breakpoints
  pub signals : Signals t.nodes signal output
  pub room : run_need t ≤ work
  -- row 8
  pub radius : (i : ℕ) → i < t.segments → WithinRadius checked (tau_of t.breakpoints steps i) bound
