-- What an unweighted step answers and leaves, from its check's answer and what the kernel wrote; and demand 3 of it. Assumes nothing.
use mathlib.Core.Path.{◌≡◌, sym, ap, ◌∙◌, subst}
use mathlib.Core.List.{List}
use Prim.Native.Nat.{ℕ, ◌*◌, ◌≤◌}
use lib.Dec.{T}
use lib.ListN.{length}
use lib.Ieee.{Float, binary64, fits}
use Rattle.arithmetic.specs.Arithmetic.{ieee}
use Rattle.arithmetic.specs.SameList.{SameList}
use Rattle.arithmetic.proofs.UpToZero.{same-list-refl}
use Rattle.scratch.specs.Parts.{put, zeros}
use Rattle.error.specs.declared.Refusal.{Refusal}
use Rattle.error.specs.Answer.{Checked}
use Rattle.error.specs.Answer.{Accepted, Refused}
use Rattle.error.proofs.Left.{answers, answers-accepted, left-unchanged, left-written}
use Rattle.graph_rows.specs.RowProduct.{row_product64}
use Rattle.magnus_plain_sum.specs.PlainSum.{plain_sum}
use Rattle.magnus.specs.Coefficients.{reciprocal_factorial}
use Rattle.magnus_plain_sum.specs.Agree.{OfFormat}
use Rattle.magnus_plain_sum.proofs.PlainSum.{samples-plain-sum}
use Rattle.magnus_graph_outcome.specs.Omega4.{sqrt3_over12}
use Rattle.magnus_graph_step.specs.Omega4.{exp_omega4}
use Rattle.magnus_graph_faults.specs.AcceptedStep.{StepInputs}
use Rattle.magnus_graph_outcome.specs.StepOutcome.{StepInput, step_answer, Stepped}
use Rattle.magnus_graph_faults.proofs.StepSound.{refused-not-accepted, step-accepted}

module _ (sign : Float) (s : StepInput) {check : Checked} (made : check ≡ step_answer sign s) where
  -- the check refused
  pub step-refused : {r : Refusal} → check ≡ Refused r → Stepped sign s check s.output s.work
  step-refused p = record {
    answers = answers made;
    output-is = left-unchanged _ _ (answers made) p;
    work-is = left-unchanged _ _ (answers made) p;
    plain = λ a. absurd (refused-not-accepted made p a);
  }

  -- the check accepted
  module _ (accepted : check ≡ Accepted) where
    -- what the kernel asks: two Laplacians on the same nodes, and the lengths
    pub inputs : StepInputs s.first s.second s.tau s.bound s.checked (length s.signal) (length s.output) (length s.work)
        (5 * s.first.nodes)
    inputs = ((step-accepted _ _ _ _ _ _ _ _).0 (sym made ∙ accepted)).inputs

    -- what it wrote, and demand 3
    pub step-taken : {k : ℕ} {L1 L2 : List Float → List Float} {out w : List Float}
        → k ≡ s.first.nodes
        → L1 ≡ row_product64 s.first.nodes s.first.starts s.first.cols s.first.vals
        → L2 ≡ row_product64 s.second.nodes s.second.starts s.second.cols s.second.vals
        → out ≡ exp_omega4 binary64 k sqrt3_over12 sign s.tau L1 L2 s.signal
        → w ≡ put 0 (zeros (5 * k)) s.work
        → OfFormat binary64 s.first.vals
        → OfFormat binary64 s.second.vals
        → T (fits binary64 s.tau)
        → Stepped sign s Accepted out w
    step-taken {k} {L1} {L2} {out} {w} nodes first second wrote cleared format1 format2 fitsτ = record {
      answers = answers-accepted (answers made) accepted;
      output-is = left-written _ _ (answers made) accepted is;
      work-is = left-written _ _ (answers made) accepted (cleared ∙ ap (λ (k : ℕ). put 0 (zeros (5 * k)) s.work) nodes);
      plain = λ a agreed formed step.
          subst (λ (x : List Float). SameList x plain-sum) (sym is)
          (samples-plain-sum binary64 s.first.nodes sqrt3_over12 sign s.tau fitsτ step agreed format1 format2
          (reciprocal_factorial binary64) 4 (same-list-refl s.signal) formed);
    }
      where
        plain-sum : List Float
        plain-sum =
            plain_sum (ieee binary64) s.first.nodes (reciprocal_factorial binary64) 4 s.tau
            (row_product64 s.first.nodes s.first.starts s.first.cols s.first.vals) s.signal

        is : out
            ≡ exp_omega4 binary64 s.first.nodes sqrt3_over12 sign s.tau
            (row_product64 s.first.nodes s.first.starts s.first.cols s.first.vals)
            (row_product64 s.first.nodes s.second.starts s.second.cols s.second.vals) s.signal
        is =
            wrote
            ∙ (λ i. exp_omega4 binary64 (nodes i) sqrt3_over12 sign s.tau (first i)
            ((second ∙ ap (λ (k : ℕ). row_product64 k s.second.starts s.second.cols s.second.vals) inputs.same_nodes) i) s.signal)
