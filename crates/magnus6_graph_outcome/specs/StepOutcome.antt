-- What a step of order 6 answers and leaves (01, part 9), and what demand 3 says of it. Assumes nothing.
use Rattle.std.specs.Prelude.{◌≡◌, Bool, List, ℕ, ◌*◌, T, length, Float}
use Rattle.std.specs.Float.{binary64}
use Rattle.arithmetic.specs.Arithmetic.{ieee}
use Rattle.arithmetic.specs.SameList.{SameList}
use Rattle.scratch.specs.Parts.{put, zeros}
use Rattle.error.specs.Answer.{Checked}
use Rattle.error.specs.Answer.{Accepted}
use Rattle.error.specs.Checks.{if_accepted}
use Rattle.error.specs.Refusals.{Answers}
use Rattle.graph_rows.specs.RowProduct.{row_product64}
use Rattle.magnus_plain_sum.specs.PlainSum.{plain_sum}
use Rattle.magnus.specs.Omega6.{constants6}
use Rattle.magnus.specs.Coefficients.{reciprocal_factorial}
use Rattle.magnus_plain_sum.specs.Agree.{SamplesAgree}
use Rattle.magnus_plain_sum.specs.Formed.{FormedOperator, formed_product}
use Rattle.magnus_plain_sum.specs.FormedOmega6.{formed_step6}
use Rattle.magnus_graph_faults.specs.StepChecks.{Sample}
use Rattle.magnus6_graph_faults.specs.Step6Checks.{step6_fault}
use Rattle.magnus_graph_outcome.specs.StepOutcome.{StepInput, step_input}
use Rattle.magnus6_graph_helpers.specs.Omega6Step.{exp_omega6}

-- what a caller lends to a step of order 6: what it lends to one of order 4, and a third sample
pub record Step6Input : Type 0 where
  pub lent : StepInput
  pub third : Sample

abbrev pub step6_input : Sample → Sample → Sample → Float → Float → Bool → List Float → List Float → List Float → Step6Input
step6_input first second third tau bound checked signal output work =
    record { lent = step_input first second tau bound checked signal output work; third = third }

module _ (s : Step6Input) where
  open s.lent use {first, second, tau, bound, checked, signal, output, work}

  abbrev nodes : ℕ
  nodes = first.nodes

  -- the product with a sample
  abbrev product : Sample → List Float → List Float
  product L = row_product64 nodes L.starts L.cols L.vals

  -- the same, with the numbers that it forms
  abbrev formed : Sample → FormedOperator
  formed L = formed_product binary64 nodes L.starts L.cols L.vals

  -- a sample agrees with the first
  abbrev Agrees : Sample → Type 0
  Agrees L = SamplesAgree first.starts first.cols first.vals L.starts L.cols L.vals

  -- the answer: the first fault, in 01's order
  abbrev pub step6_answer : Checked
  step6_answer =
      step6_fault first second s.third tau bound checked (length signal) (length output) (length work)

  -- the output afterwards: the step's answer where all checks accept, else as it was
  abbrev pub step6_output : List Float
  step6_output =
      if_accepted step6_answer (exp_omega6 binary64 nodes tau (product first) (product second) (product s.third) signal) output

  -- the work slice afterwards: its first 22n elements are +0 where all checks accept, else as it was
  abbrev pub step6_work : List Float
  step6_work = if_accepted step6_answer (put 0 (zeros (22 * nodes)) work) work

  -- Demand 3: where the three samples agree and every number formed is finite, the output of an accepted step is the plain sum of
  -- degree 6, up to the sign of a zero. It is so for every τ, which is more than 01 asks: order 4 has a premise on τ since it forms
  -- half of it, and order 6 does not.
  abbrev pub PlainSum6 : List Float → Type 0
  PlainSum6 out =
      step6_answer ≡ Accepted
      → Agrees second
      → Agrees s.third
      → T ((formed_step6 binary64 nodes (reciprocal_factorial binary64) 6 constants6 tau (formed first) (formed second) (formed s.third)
      ).formed signal)
      → SameList out (plain_sum (ieee binary64) nodes (reciprocal_factorial binary64) 6 tau (product first) signal)

  -- what a step promises: its answer has the number and values of the first fault, and each lent slice afterwards
  pub record Stepped6 (answer : Checked) (out w : List Float) : Type 0 where
    pub answers : Answers answer step6_answer
    pub output-is : out ≡ step6_output
    pub work-is : w ≡ step6_work
    pub plain : PlainSum6 out
