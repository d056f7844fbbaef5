-- What a step of order 6 answers and leaves, from its check's answer and what the kernel wrote; and demand 3 of it. Assumes nothing.
use mathlib.Core.Path.{◌≡◌, sym, ap, ◌∙◌, subst}
use mathlib.Core.List.{List}
use Prim.Native.Nat.{ℕ, ◌*◌}
use lib.ListN.{length}
use lib.Ieee.{Float, binary64}
use Rattle.arithmetic.specs.Arithmetic.{ieee}
use Rattle.arithmetic.specs.SameList.{SameList}
use Rattle.arithmetic.proofs.UpToZero.{same-list-refl}
use Rattle.scratch.specs.Parts.{put, zeros}
use Rattle.error.specs.declared.Refusal.{Refusal}
use Rattle.error.specs.Answer.{Checked}
use Rattle.error.specs.Answer.{Accepted, Refused}
use Rattle.error.proofs.Left.{answers, answers-accepted, left-unchanged, left-written}
use Rattle.graph_rows.specs.RowProduct.{row_product64}
use Rattle.magnus_plain_sum.specs.PlainSum.{plain_sum}
use Rattle.magnus.specs.Omega6.{constants6}
use Rattle.magnus.specs.Coefficients.{reciprocal_factorial}
use Rattle.magnus_plain_sum.specs.Agree.{OfFormat}
use Rattle.magnus_plain_sum.proofs.PlainSum6.{samples6-plain-sum}
use Rattle.magnus_graph_faults.specs.StepChecks.{Sample}
use Rattle.magnus6_graph_faults.specs.AcceptedStep6.{AcceptedStep6}
use Rattle.magnus_graph_faults.proofs.StepSound.{refused-not-accepted}
use Rattle.magnus6_graph_faults.proofs.Step6Sound.{step6-accepted}
use Rattle.magnus6_graph_helpers.specs.Omega6Step.{exp_omega6}
use Rattle.magnus6_graph_outcome.specs.StepOutcome.{Step6Input, step6_answer, Stepped6}

module _ (s : Step6Input) {check : Checked} (made : check ≡ step6_answer s) where
  open s.lent use {first, second, tau, bound, checked, signal, output, work}

  -- the check refused
  pub step6-refused : {r : Refusal} → check ≡ Refused r → Stepped6 s check output work
  step6-refused p = record {
    answers = answers made;
    output-is = left-unchanged _ _ (answers made) p;
    work-is = left-unchanged _ _ (answers made) p;
    plain = λ a. absurd (refused-not-accepted made p a);
  }

  -- the check accepted
  module _ (accepted : check ≡ Accepted) where
    -- what the kernel asks: three Laplacians on the same nodes, and the lengths
    pub step6-inputs : AcceptedStep6 first second s.third tau bound checked (length signal) (length output) (length work)
    step6-inputs = (step6-accepted _ _ _ _ _ _ _ _ _).0 (sym made ∙ accepted)

    -- the product with a sample, and the plain sum
    abbrev product : ℕ → Sample → List Float → List Float
    product n L = row_product64 n L.starts L.cols L.vals

    abbrev plain-sum : List Float
    plain-sum =
        plain_sum (ieee binary64) first.nodes (reciprocal_factorial binary64) 6 tau (product first.nodes first) signal

    -- what it wrote, and demand 3
    pub step6-taken : {k : ℕ} {L1 L2 L3 : List Float → List Float} {out w : List Float}
        → k ≡ first.nodes
        → L1 ≡ product first.nodes first
        → L2 ≡ product second.nodes second
        → L3 ≡ product s.third.nodes s.third
        → out ≡ exp_omega6 binary64 k tau L1 L2 L3 signal
        → w ≡ put 0 (zeros (22 * k)) work
        → OfFormat binary64 first.vals
        → OfFormat binary64 second.vals
        → OfFormat binary64 s.third.vals
        → Stepped6 s Accepted out w
    step6-taken {k} {L1} {L2} {L3} {out} {w} nodes product1 product2 product3 wrote cleared format1 format2 format3 = record {
      answers = answers-accepted (answers made) accepted;
      output-is = left-written _ _ (answers made) accepted is;
      work-is = left-written _ _ (answers made) accepted (cleared ∙ ap (λ (k : ℕ). put 0 (zeros (22 * k)) work) nodes);
      plain = λ a agreed2 agreed3 formed.
          subst (λ (x : List Float). SameList x plain-sum) (sym is)
          (samples6-plain-sum binary64 first.nodes constants6 tau agreed2 agreed3 format1 format2 format3
          (reciprocal_factorial binary64) 6 (same-list-refl signal) formed);
    }
      where
        second-is : L2 ≡ product first.nodes second
        second-is = product2 ∙ ap (λ (k : ℕ). product k second) step6-inputs.inputs.same_nodes

        third-is : L3 ≡ product first.nodes s.third
        third-is = product3 ∙ ap (λ (k : ℕ). product k s.third) step6-inputs.same-nodes3

        is : out
            ≡ exp_omega6 binary64 first.nodes tau (product first.nodes first) (product first.nodes second) (product first.nodes s.third)
            signal
        is = wrote ∙ (λ i. exp_omega6 binary64 (nodes i) tau (product1 i) (second-is i) (third-is i) signal)
