-- What an accepted step of order 4 has. proofs/StepSound.antt shows that the checks accept exactly these. Assumes nothing.
use Rattle.std.specs.Prelude.{◌≡◌, Bool, true, false, ℕ, ◌*◌, ◌≤◌, Float}
use Rattle.std.specs.Float.{binary64}
use Rattle.std.specs.Float.Ieee.{lt, le, mul}
use Rattle.std.specs.Float.Ieee.Scale.{finite}
use Rattle.rounding.specs.SignOfZero.{+0}
use Rattle.graph_checks.specs.Pattern.{Laplacian}
use Rattle.magnus_graph_faults.specs.StepChecks.{Sample, half_pi}

-- a bound or a weight: finite and above 0 (rows 9 and 11)
pub record Positive (x : Float) : Type 0 where
  pub is_finite : finite x ≡ true
  pub above_zero : lt +0 x ≡ true

-- a step length: finite and not below 0 (row 7)
pub record NotNegative (τ : Float) : Type 0 where
  pub is_finite : finite τ ≡ true
  pub not-below-zero : lt τ +0 ≡ false

-- where the check is on, bound·τ is not π/2 or more (row 8)
pub record WithinRadius (checked : Bool) (τ bound : Float) : Type 0 where
  pub below-half-pi : checked ≡ true → le half_pi (mul binary64 bound τ) ≡ false

-- what the steps have in common; the bound is row 8's, the need that of the work slice
pub record StepInputs (first second : Sample) (τ bound : Float) (checked : Bool) (signal output work need : ℕ) : Type 0 where
  -- both samples are Laplacians on the same nodes (rows 6 and 1 to 5, row 10)
  pub laplacian1 : Laplacian first.nodes first.starts first.cols first.vals
  pub laplacian2 : Laplacian first.nodes second.starts second.cols second.vals
  pub same_nodes : second.nodes ≡ first.nodes
  pub step-length : NotNegative τ
  pub radius : WithinRadius checked τ bound
  -- the lengths (row 10)
  pub signal-length : signal ≡ first.nodes
  pub output-length : output ≡ first.nodes
  pub room : need ≤ work

-- an accepted unweighted step
pub record AcceptedStep (first second : Sample) (τ bound : Float) (checked : Bool) (signal output work : ℕ) : Type 0 where
  pub inputs : StepInputs first second τ bound checked signal output work (5 * first.nodes)
  pub spectral-bound : Positive bound
