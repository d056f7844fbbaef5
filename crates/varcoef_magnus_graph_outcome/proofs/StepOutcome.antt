-- What a weighted step answers and leaves, from its check's answer and what the kernel wrote; and demand 3 of it. Assumes nothing.
use mathlib.Core.Path.{◌≡◌, sym, ap, ◌∙◌, subst}
use mathlib.Core.List.{List, map}
use Prim.Native.Nat.{ℕ, ◌*◌}
use native.Mathlib.Omega.{arith}
use lib.Dec.{T}
use lib.ListN.{length}
use lib.Ieee.{Float, binary64, fits}
use Rattle.arithmetic.specs.Arithmetic.{ieee}
use Rattle.arithmetic.specs.SameList.{SameList}
use Rattle.arithmetic.proofs.UpToZero.{same-list-refl}
use Rattle.scratch.specs.Parts.{put, zeros}
use Rattle.ieee_square_root.specs.SquareRoot.{square_root}
use Rattle.error.specs.declared.Refusal.{Refusal}
use Rattle.error.specs.Answer.{Checked}
use Rattle.error.specs.Answer.{Accepted, Refused}
use Rattle.error.proofs.Left.{answers, answers-accepted, left-unchanged, left-written}
use Rattle.graph_rows.specs.RowProduct.{row_product64}
use Rattle.magnus.specs.Operators.{weighted}
use Rattle.magnus_plain_sum.specs.PlainSum.{plain_sum}
use Rattle.magnus.specs.Coefficients.{reciprocal_factorial}
use Rattle.magnus_plain_sum.specs.Agree.{OfFormat}
use Rattle.magnus_plain_sum.proofs.Agree.{agree_same}
use Rattle.magnus_plain_sum.proofs.PlainSum.{weighted-samples-plain-sum}
use Rattle.magnus_graph_step.specs.Omega4.{exp_omega4}
use Rattle.magnus_graph_faults.specs.StepChecks.{Sample}
use Rattle.varcoef_magnus_graph_faults.specs.AcceptedWeightedStep.{AcceptedWeightedStep}
use Rattle.varcoef_magnus_graph_faults.proofs.WeightedStepSound.{weighted-step-accepted}
use Rattle.varcoef_magnus_graph_outcome.specs.WeightedOmega4.{sqrt3_over12}
use Rattle.varcoef_magnus_graph_outcome.specs.StepOutcome.{StepInput, step_answer, Stepped}
use Rattle.varcoef_magnus_graph_outcome.proofs.RootsAgree.{roots-same-list}

module _ (sign : Float) (s : StepInput) {check : Checked} (made : check ≡ step_answer sign s) where
  -- the check refused
  pub step-refused : {r : Refusal} → check ≡ Refused r → Stepped sign s check s.output s.work
  step-refused {r} p = record {
    answers = answers made;
    output-is = left-unchanged _ _ (answers made) p;
    work-is = left-unchanged _ _ (answers made) p;
    plain = λ a. absurd (not-both (sym p ∙ made ∙ a));
  }
    where
      not-both : Refused r ≡ Accepted → ⊥
      not-both e = let z : ◌≡◌ {A = ℕ} 0 1 = cc in omega arith

  -- the check accepted
  module _ (accepted : check ≡ Accepted) where
    -- what the kernel asks: two Laplacians on the same nodes, the weights and the lengths
    pub inputs : AcceptedWeightedStep s.first s.second s.tau s.bound s.root_bound s.checked (length s.signal) (length s.output)
        s.weights1 s.weights2 (length s.work)
    inputs = (weighted-step-accepted _ _ _ _ _ _ _ _ _ _ _).0 (sym made ∙ accepted)

    -- the roots of weights, the product with a sample and the plain sum
    abbrev pub roots : List Float → List Float
    roots w = map (square_root binary64) w

    abbrev product : ℕ → Sample → List Float → List Float
    product n L = row_product64 n L.starts L.cols L.vals

    abbrev plain-sum : List Float
    plain-sum =
        let n = s.first.nodes in
        plain_sum (ieee binary64) n (reciprocal_factorial binary64) 4 s.tau
        (weighted (ieee binary64) n (roots s.weights1) (product n s.first)) s.signal

    -- what it wrote, and demand 3
    pub step-taken : {k : ℕ} {L1 L2 : List Float → List Float} {out w : List Float}
        → k ≡ s.first.nodes
        → L1 ≡ product s.first.nodes s.first
        → L2 ≡ product s.second.nodes s.second
        → out
        ≡ exp_omega4 binary64 k sqrt3_over12 sign s.tau
        (weighted (ieee binary64) k (roots s.weights1) L1)
        (weighted (ieee binary64) k (roots s.weights2) L2) s.signal
        → w ≡ put 0 (zeros (9 * k)) s.work
        → OfFormat binary64 s.first.vals
        → OfFormat binary64 s.second.vals
        → OfFormat binary64 s.weights1
        → OfFormat binary64 s.weights2
        → T (fits binary64 s.tau)
        → Stepped sign s Accepted out w
    step-taken {k} {L1} {L2} {out} {w} nodes first second wrote cleared format1 format2 weights-format1 weights-format2 fitsτ = record {
      answers = answers-accepted (answers made) accepted;
      output-is = left-written _ _ (answers made) accepted is;
      work-is = left-written _ _ (answers made) accepted (cleared ∙ ap (λ (k : ℕ). put 0 (zeros (9 * k)) s.work) nodes);
      plain = λ a agreed weights-agree formed length.
          subst (λ (x : List Float). SameList x plain-sum) (sym is)
          (weighted-samples-plain-sum binary64 s.first.nodes sqrt3_over12 sign s.tau fitsτ length agreed format1 format2
          (reciprocal_factorial binary64) 4 (same-list-refl s.signal) (roots s.weights1) (roots s.weights2)
          (roots-same-list binary64 (agree_same binary64 s.weights1 s.weights2 weights-format1 weights-format2 weights-agree)) formed);
    }
      where
        second-is : L2 ≡ product s.first.nodes s.second
        second-is = second ∙ ap (λ (k : ℕ). product k s.second) inputs.inputs.same_nodes

        is : out
            ≡ exp_omega4 binary64 s.first.nodes sqrt3_over12 sign s.tau
            (weighted (ieee binary64) s.first.nodes (roots s.weights1) (product s.first.nodes s.first))
            (weighted (ieee binary64) s.first.nodes (roots s.weights2) (product s.first.nodes s.second)) s.signal
        is =
            wrote
            ∙ (λ i. exp_omega4 binary64 (nodes i) sqrt3_over12 sign s.tau
            (weighted (ieee binary64) (nodes i) (roots s.weights1) (first i))
            (weighted (ieee binary64) (nodes i) (roots s.weights2) (second-is i)) s.signal)
