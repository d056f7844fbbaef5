-- A step of law 2 from its calls: both samples of the values were written as pairs, then their weights, each after its check, then the
-- roots of these, and the Taylor sum was formed of them. Assumes nothing.
use mathlib.Core.Path.{◌≡◌, refl, sym, ap, ◌∙◌}
use mathlib.Core.List.{List, map}
use Prim.Native.Nat.{ℕ, ◌+◌, ◌*◌, ◌≤◌}
use native.Mathlib.Omega.{arith}
use lib.ListN.{length, take, length-map, get_or-map}
use lib.Ieee.{Float, binary64, nan}
use Rattle.arithmetic.specs.Arithmetic.{Arithmetic, ieee}
use Rattle.arithmetic.proofs.Tabulate.{length-tabulate, tabulate-same}
use Rattle.scratch.specs.Parts.{part, put}
use Rattle.scratch.proofs.Parts.{Wrote, wrote, length_part, part-of-put-before}
use Rattle.ieee_square_root.specs.SquareRoot.{square_root}
use Rattle.square_roots_estimates.proofs.Roots.{roots-of}
use Rattle.error.specs.Checks.{next}
use Rattle.error.specs.declared.Refusal.{Refusal}
use Rattle.error.specs.Answer.{Checked}
use Rattle.error.specs.Answer.{Accepted, Refused}
use Rattle.error.proofs.Checks.{refused-here, accepted-then}
use Rattle.graph_rows.specs.RowProduct.{row_product64}
use Rattle.graph_pairs.specs.Pairs.{firsts, seconds}
use Rattle.graph_pairs.proofs.Pairs.{at-firsts, at-seconds}
use Rattle.magnus.specs.Operators.{weighted}
use Rattle.magnus.specs.Coefficients.{reciprocal_factorial}
use Rattle.magnus_graph_step.specs.Omega4.{exp_omega4}
use Rattle.magnus_graph_outcome.specs.StepOutcome.{adjoint}
use Rattle.varcoef_magnus_graph_faults.specs.WeightedStepChecks.{weight_fault}
use Rattle.magnus_graph_faults.proofs.StepSound.{refused-not-accepted}
use Rattle.varcoef_magnus_graph_outcome.specs.WeightedOmega4.{sqrt3_over12}
use Rattle.graph_traj_laws.specs.Laws.{law_values}
use Rattle.graph_traj_samples.specs.Sampled.{sampled_fault, law_pairs}
use Rattle.graph_traj_samples.proofs.Sampled.{first-values, second-values}
use Rattle.varcoef_magnus_graph_traj_step.specs.StepTaken.{Kept, StepTaken}
use Rattle.varcoef_magnus_graph_traj_step.specs.SignalScaled.{SumFormed}
use Rattle.varcoef_magnus_graph_traj_step.proofs.Kept.{kept_then, kept_put}
use Rattle.varcoef_magnus_graph_traj_step.proofs.Terms.{sampled_omega}

abbrev A : Arithmetic Float
A = ieee binary64

abbrev root : Float → Float
root = square_root binary64

-- the roots of pairs are the pairs of the roots
first-roots : (n : ℕ) (x : List Float) → firsts A n (map root x) ≡ map root (firsts A n x)
unfolding square_root
first-roots n x =
    tabulate-same _ _ n (λ i h. get_or-map root x (2 * i) nan ∙ ap root (sym (at-firsts A n x i h)))
    ∙ roots-of (firsts A n x) (length-tabulate _ n)

second-roots : (n : ℕ) (x : List Float) → seconds A n (map root x) ≡ map root (seconds A n x)
unfolding square_root
second-roots n x =
    tabulate-same _ _ n (λ i h. get_or-map root x (2 * i + 1) nan ∙ ap root (sym (at-seconds A n x i h)))
    ∙ roots-of (seconds A n x) (length-tabulate _ n)

-- starts and ends are the lists of the values and a_starts and a_ends those of the weights
module _ (n : ℕ) (row_starts cols : List ℕ) (τ f1 f2 : Float) (starts ends a_starts a_ends w w₁ : List Float) (r : Checked)
    (size-x : length starts ≡ length cols) (size-a : length a_starts ≡ n)
    (room : 11 * n + 2 * length cols ≤ length w) where
  abbrev m : ℕ
  m = length cols

  abbrev need : ℕ
  need = 11 * n + 2 * m

  -- the values of the two samples, as pairs and each
  abbrev x : List Float
  x = law_pairs (length starts) f1 f2 starts ends

  abbrev x1 : List Float
  x1 = law_values (length starts) f1 starts ends

  abbrev x2 : List Float
  x2 = law_values (length starts) f2 starts ends

  -- their weights
  abbrev a : List Float
  a = law_pairs (length a_starts) f1 f2 a_starts a_ends

  abbrev a1 : List Float
  a1 = law_values (length a_starts) f1 a_starts a_ends

  abbrev a2 : List Float
  a2 = law_values (length a_starts) f2 a_starts a_ends

  size-values : length x ≡ 2 * m
  size-values = length-tabulate _ (2 * length starts) ∙ ap (λ (k : ℕ). 2 * k) size-x

  size-weights : length a ≡ 2 * n
  size-weights = length-tabulate _ (2 * length a_starts) ∙ ap (λ (k : ℕ). 2 * k) size-a

  module _ (sampled : (r ≡ next (sampled_fault x1) (sampled_fault x2)) × (w₁ ≡ put (11 * n) x w)) where
    kept1 : Kept need w w₁
    kept1 = kept_put (11 * n) x w w₁ (omega (arith, size-values)) sampled.1

    -- a sample is refused
    pub samples-refused : {q : Refusal} → r ≡ Refused q → StepTaken n row_starts cols τ x1 x2 a1 a2 r w w₁
    samples-refused {q} p = record {
      answer-is = refused-here r _ _ q sampled.0 p;
      held = λ accepted. absurd (refused-not-accepted refl p accepted);
      kept = kept1;
    }

    module _ (w₂ : List Float) (r₁ : Checked) (accepted : r ≡ Accepted)
        (weighted-are : (r₁ ≡ weight_fault a1 a2) × (w₂ ≡ put (4 * n) a w₁)) where
      kept2 : Kept need w w₂
      kept2 = kept_then kept1 (kept_put (4 * n) a w₁ w₂ (omega (arith, size-weights)) weighted-are.1)

      all-checks : r₁ ≡ next (next (sampled_fault x1) (sampled_fault x2)) (weight_fault a1 a2)
      all-checks = accepted-then r₁ r _ _ sampled.0 accepted weighted-are.0

      -- a weight is refused
      pub weights-refused : {q : Refusal} → r₁ ≡ Refused q → StepTaken n row_starts cols τ x1 x2 a1 a2 r₁ w w₂
      weights-refused p =
          record { answer-is = all-checks; held = λ a. absurd (refused-not-accepted refl p a); kept = kept2 }

      -- nothing is refused: the roots are taken and the Taylor sum is formed
      module _ (w₃ : List Float) (accepted1 : r₁ ≡ Accepted)
          (rooted : w₃ ≡ put (8 * n) (map root (part (4 * n) (2 * n) w₂)) w₂) where
        wrote1 : Wrote (2 * m) (11 * n) x w w₁
        wrote1 = wrote (2 * m) (11 * n) x w w₁ size-values (omega arith) sampled.1

        wrote2 : Wrote (2 * n) (4 * n) a w₁ w₂
        wrote2 = let kept = kept1.length-kept in wrote (2 * n) (4 * n) a w₁ w₂ size-weights (omega arith) weighted-are.1

        wrote3 : Wrote (2 * n) (8 * n) (map root (part (4 * n) (2 * n) w₂)) w₂ w₃
        wrote3 =
            let kept = kept2.length-kept in
            wrote (2 * n) (8 * n) (map root (part (4 * n) (2 * n) w₂)) w₂ w₃
            (length-map (part (4 * n) (2 * n) w₂) root ∙ length_part (4 * n) (2 * n) w₂ (omega arith)) (omega arith) rooted

        -- the roots of the weights
        roots : part (8 * n) (2 * n) w₃ ≡ map root a
        roots = wrote3.here ∙ ap (map root) wrote2.here

        root1 : firsts A n (part (8 * n) (2 * n) w₃) ≡ map root a1
        root1 =
            ap (firsts A n) roots ∙ first-roots n a
            ∙ ap (map root) (ap (λ (k : ℕ). firsts A k a) (sym size-a) ∙ first-values (length a_starts) f1 f2 a_starts a_ends)

        root2 : seconds A n (part (8 * n) (2 * n) w₃) ≡ map root a2
        root2 =
            ap (seconds A n) roots ∙ second-roots n a
            ∙ ap (map root) (ap (λ (k : ℕ). seconds A k a) (sym size-a) ∙ second-values (length a_starts) f1 f2 a_starts a_ends)

        -- the values
        values : part (11 * n) (2 * m) w₃ ≡ x
        values = ap (take (2 * m)) (wrote3.rest (11 * n) (omega arith) ∙ wrote2.rest (11 * n) (omega arith)) ∙ wrote1.here

        value1 : firsts A m (part (11 * n) (2 * m) w₃) ≡ x1
        value1 = ap (firsts A m) values ∙ ap (λ (k : ℕ). firsts A k x) (sym size-x) ∙ first-values (length starts) f1 f2 starts ends

        value2 : seconds A m (part (11 * n) (2 * m) w₃) ≡ x2
        value2 = ap (seconds A m) values ∙ ap (λ (k : ℕ). seconds A k x) (sym size-x) ∙ second-values (length starts) f1 f2 starts ends

        -- the held signal
        signal : part 0 n w₃ ≡ part 0 n w
        signal =
            ap (part 0 n) rooted ∙ part-of-put-before (8 * n) _ w₂ 0 n (omega arith)
            ∙ ap (part 0 n) weighted-are.1 ∙ part-of-put-before (4 * n) a w₁ 0 n (omega arith)
            ∙ ap (part 0 n) sampled.1 ∙ part-of-put-before (11 * n) x w 0 n (omega arith)

        pub sampled-taken : {w₄ : List Float}
            → SumFormed n (reciprocal_factorial binary64) 4 (sampled_omega n row_starts cols sqrt3_over12 adjoint τ w₃) w₃ w₄
            → StepTaken n row_starts cols τ x1 x2 a1 a2 Accepted w w₄
        sampled-taken {w₄} terms =
            let roots_kept : Kept need w₂ w₃ =
            record { length-kept = wrote3.length-kept; rest = λ j h. wrote3.rest j (omega arith) } in
            let terms-kept : Kept need w₃ w₄ =
            record { length-kept = terms.length-kept; rest = λ j h. terms.rest j (omega arith) } in
            record {
              answer-is = sym accepted1 ∙ all-checks;
              held = λ accepted. terms.sum
                  ∙ (λ i. exp_omega4 binary64 n sqrt3_over12 adjoint τ
                  (weighted A n (root1 i) (row_product64 n row_starts cols (value1 i)))
                  (weighted A n (root2 i) (row_product64 n row_starts cols (value2 i))) (signal i));
              kept = kept_then kept2 (kept_then roots_kept terms-kept);
            }
