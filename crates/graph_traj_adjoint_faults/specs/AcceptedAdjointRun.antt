-- What an accepted adjoint run has. proofs/AdjointRunSound.antt shows that the checks accept exactly these. Assumes nothing.
use Rattle.std.specs.Prelude.{◌≡◌, Bool, ℕ, ◌≤◌, ◌<◌, Float}
use Rattle.graph_traj_parts.specs.Trajectory.{Trajectory, AcceptedAdjointTrajectory}
use Rattle.magnus_graph_faults.specs.AcceptedStep.{Positive, NotNegative, WithinRadius}
use Rattle.varcoef_magnus_graph_faults.specs.WeightedStepChecks.{weighted_bound}
use Rattle.graph_traj_faults.specs.RunChecks.{run_need}
use Rattle.graph_traj_faults.specs.AcceptedRun.{Signals}
use Rattle.graph_traj_adjoint_faults.specs.AdjointRunChecks.{weighted_run_need}

-- the steps of an adjoint run, where it has any (rows 16, 7, 8)
pub record Steps (τ : Float) (steps : ℕ) (bound : Float) (checked : Bool) : Type 0 where
  pub few-steps : steps ≤ 65535
  pub step-length : NotNegative τ
  pub radius : WithinRadius checked τ bound

-- an adjoint run
pub record AcceptedAdjointRun (t : Trajectory) (τ : Float) (steps : ℕ) (bound : Float) (checked : Bool) (signal output work : ℕ) : Type 0 where
  pub along : AcceptedAdjointTrajectory t
  pub spectral-bound : Positive bound
  pub signals : Signals t.nodes signal output
  pub stepping : 0 < steps → Steps τ steps bound checked
  pub room : 0 < steps → run_need t ≤ work

-- a weighted adjoint run
pub record AcceptedWeightedAdjointRun (t : Trajectory) (τ : Float) (steps : ℕ) (bound root_bound : Float) (checked : Bool)
    (signal output starts ends work : ℕ) : Type 0 where
  pub along : AcceptedAdjointTrajectory t
  pub spectral-bound : Positive bound
  pub root-bound : Positive root_bound
  -- there is a node (row 12)
  pub some-nodes : 0 < t.nodes
  pub signals : Signals t.nodes signal output
  pub stepping : 0 < steps → Steps τ steps (weighted_bound bound root_bound) checked
  -- both lists of weights have n places
  pub weights : 0 < steps → (starts ≡ t.nodes) × (ends ≡ t.nodes)
  pub room : 0 < steps → weighted_run_need t ≤ work
