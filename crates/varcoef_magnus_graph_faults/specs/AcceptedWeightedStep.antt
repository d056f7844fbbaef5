-- What an accepted weighted step has. proofs/WeightedStepSound.antt shows that the checks accept exactly these. Assumes nothing.
use Rattle.std.specs.Prelude.{◌≡◌, Bool, List, ℕ, ◌*◌, ◌<◌, length, get_or, Float}
use Rattle.std.specs.Float.{nan}
use Rattle.magnus_graph_faults.specs.StepChecks.{Sample}
use Rattle.magnus_graph_faults.specs.AcceptedStep.{Positive, StepInputs}
use Rattle.varcoef_magnus_graph_faults.specs.WeightedStepChecks.{weighted_bound}

-- a sample's weights: one for each node, all finite and above 0
pub record Weights (n : ℕ) (weights : List Float) : Type 0 where
  pub count : length weights ≡ n
  pub positive : (k : ℕ) → k < length weights → Positive (get_or weights k nan)

-- an accepted weighted step
pub record AcceptedWeightedStep (first second : Sample) (τ bound root_bound : Float) (checked : Bool) (signal output : ℕ)
    (weights1 weights2 : List Float) (work : ℕ) : Type 0 where
  pub inputs : StepInputs first second τ (weighted_bound bound root_bound) checked signal output work (9 * first.nodes)
  pub spectral-bound : Positive bound
  pub root-bound : Positive root_bound
  -- there is a node (row 12)
  pub some-nodes : 0 < first.nodes
  pub of-first : Weights first.nodes weights1
  pub of-second : Weights first.nodes weights2
