-- What a weighted step of order 4 answers and leaves (01, parts 7 and 8), and what demand 3 says of it. Assumes nothing.
use Rattle.std.specs.Prelude.{◌≡◌, Bool, List, map, ℕ, ◌*◌, T, length, Float}
use Rattle.std.specs.Float.{binary64}
use Rattle.rounding.specs.StepLength.{step_length}
use Rattle.arithmetic.specs.Arithmetic.{ieee}
use Rattle.arithmetic.specs.SameList.{SameList}
use Rattle.scratch.specs.Parts.{put, zeros}
use Rattle.ieee_square_root.specs.SquareRoot.{square_root}
use Rattle.error.specs.Answer.{Checked}
use Rattle.error.specs.Answer.{Accepted}
use Rattle.error.specs.Checks.{if_accepted}
use Rattle.error.specs.Refusals.{Answers}
use Rattle.graph_rows.specs.RowProduct.{row_product64}
use Rattle.magnus.specs.Operators.{weighted}
use Rattle.magnus_plain_sum.specs.PlainSum.{plain_sum}
use Rattle.magnus.specs.Coefficients.{reciprocal_factorial}
use Rattle.magnus_plain_sum.specs.Agree.{agree, SamplesAgree}
use Rattle.magnus_plain_sum.specs.Formed.{FormedOperator, formed_product, formed_weighted, formed_step4}
use Rattle.magnus_graph_step.specs.Omega4.{exp_omega4}
use Rattle.magnus_graph_faults.specs.StepChecks.{Sample}
use Rattle.varcoef_magnus_graph_faults.specs.WeightedStepChecks.{weighted_step_fault}
use Rattle.varcoef_magnus_graph_outcome.specs.WeightedOmega4.{sqrt3_over12}

-- what a caller lends to a weighted step
pub record StepInput : Type 0 where
  pub first : Sample
  pub second : Sample
  pub tau : Float
  -- the spectral bound, the root bound, and whether row 8 is checked
  pub bound : Float
  pub root_bound : Float
  pub checked : Bool
  pub weights1 : List Float
  pub weights2 : List Float
  pub signal : List Float
  pub output : List Float
  pub work : List Float

abbrev pub step_input : Sample
    → Sample
    → Float
    → Float
    → Float
    → Bool
    → List Float
    → List Float
    → List Float
    → List Float
    → List Float
    → StepInput
step_input first second tau bound root_bound checked weights1 weights2 signal output work = record {
  first = first;
  second = second;
  tau = tau;
  bound = bound;
  root_bound = root_bound;
  checked = checked;
  weights1 = weights1;
  weights2 = weights2;
  signal = signal;
  output = output;
  work = work;
}

module _ (sign : Float) (s : StepInput) where
  abbrev nodes : ℕ
  nodes = s.first.nodes

  -- the roots of the weights
  abbrev root1 : List Float
  root1 = map (square_root binary64) s.weights1

  abbrev root2 : List Float
  root2 = map (square_root binary64) s.weights2

  -- the weighted products with the two samples, with the numbers that they form
  abbrev pub formed1 : FormedOperator
  formed1 = formed_weighted binary64 nodes root1 (formed_product binary64 nodes s.first.starts s.first.cols s.first.vals)

  abbrev pub formed2 : FormedOperator
  formed2 = formed_weighted binary64 nodes root2 (formed_product binary64 nodes s.second.starts s.second.cols s.second.vals)

  abbrev product1 : List Float → List Float
  product1 = weighted (ieee binary64) nodes root1 (row_product64 nodes s.first.starts s.first.cols s.first.vals)

  abbrev product2 : List Float → List Float
  product2 = weighted (ieee binary64) nodes root2 (row_product64 nodes s.second.starts s.second.cols s.second.vals)

  -- the answer: the first fault, in 01's order
  abbrev pub step_answer : Checked
  step_answer =
      weighted_step_fault s.first s.second s.tau s.bound s.root_bound s.checked (length s.signal) (length s.output)
      s.weights1 s.weights2 (length s.work)

  -- the output afterwards: the step's answer where all checks accept, else as it was
  abbrev pub step_output : List Float
  step_output = if_accepted step_answer (exp_omega4 binary64 nodes sqrt3_over12 sign s.tau product1 product2 s.signal) s.output

  -- the work slice afterwards: its first 9n elements are +0 where all checks accept, else as it was
  abbrev pub step_work : List Float
  step_work = if_accepted step_answer (put 0 (zeros (9 * nodes)) s.work) s.work

  -- Demand 3: where the samples and the weights agree, every number formed is finite and τ is 0 or at least 2 ^ -1021, the output of an
  -- accepted step is the plain sum of degree 4 with the weighted product, up to the sign of a zero.
  abbrev pub PlainSum : List Float → Type 0
  PlainSum output =
      step_answer ≡ Accepted
      → SamplesAgree s.first.starts s.first.cols s.first.vals s.second.starts s.second.cols s.second.vals
      → T (agree s.weights1 s.weights2)
      → T ((formed_step4 binary64 nodes (reciprocal_factorial binary64) 4 sqrt3_over12 sign s.tau formed1 formed2).formed s.signal)
      → T (step_length binary64 s.tau)
      → SameList output (plain_sum (ieee binary64) nodes (reciprocal_factorial binary64) 4 s.tau product1 s.signal)

  -- what a step promises: its answer has the number and values of the first fault, and each lent slice afterwards
  pub record Stepped (answer : Checked) (output work : List Float) : Type 0 where
    pub answers : Answers answer step_answer
    pub output-is : output ≡ step_output
    pub work-is : work ≡ step_work
    pub plain : PlainSum output
