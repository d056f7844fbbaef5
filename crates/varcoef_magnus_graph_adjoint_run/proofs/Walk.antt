-- How the loops of a weighted run walk over the steps of its one segment: step by step with samples of law 2, and with one list for all
-- steps under laws 0 and 1. Assumes nothing.
use mathlib.Core.Path.{◌≡◌, refl, sym, ap, ◌∙◌, subst, subst₂}
use mathlib.Core.List.{List, [], ◌∷◌, map}
use Prim.Native.Nat.{ℕ, suc, ◌+◌, ◌*◌, ◌≤◌, ◌<◌}
use native.Mathlib.Numerals.{add-one}
use native.Mathlib.Omega.{arith}
use lib.ListN.{length, take, length-map}
use lib.Ieee.{Float, binary64}
use Rattle.rounding.specs.StepLength.{minus_half}
use Rattle.arithmetic.specs.Vector.{tabulate}
use Rattle.arithmetic.specs.Arithmetic.{ieee}
use Rattle.scratch.specs.Parts.{part, put}
use Rattle.scratch.proofs.Parts.{part-of-put, part-of-put-before}
use Rattle.ieee_square_root.specs.SquareRoot.{square_root}
use Rattle.error.specs.Checks.{next}
use Rattle.error.specs.declared.Refusal.{Refusal}
use Rattle.error.specs.Answer.{Checked}
use Rattle.error.specs.Answer.{Accepted, Refused}
use Rattle.graph_rows.specs.RowProduct.{row_product64}
use Rattle.magnus_plain_sum.specs.Run.{run_along}
use Rattle.magnus.specs.Operators.{taylor}
use Rattle.magnus.specs.Coefficients.{reciprocal_factorial}
use Rattle.magnus_graph_outcome.specs.StepOutcome.{adjoint}
use Rattle.varcoef_magnus_graph_faults.specs.WeightedStepChecks.{sample_weights_fault, weight_fault}
use Rattle.magnus_graph_helpers.specs.Terms.{TermsAdded}
use Rattle.magnus_graph_faults.proofs.StepSound.{refused-not-accepted}
use Rattle.varcoef_magnus_graph_outcome.specs.WeightedOmega4.{sqrt3_over12}
use Rattle.varcoef_magnus_graph_taylor_term.specs.WeightedOmega4.{weighted_omega4}
use Rattle.graph_traj_segment.specs.declared.kernel.Segment.{Segment}
use Rattle.graph_traj_segment.specs.Times.{fraction}
use Rattle.graph_traj_laws.specs.Laws.{law_values}
use Rattle.graph_traj_segment.specs.Times.{c1, c2, adjoint_step_start, sample_time}
use Rattle.magnus_graph_traj_steps.specs.RunSteps.{RunStep, step_in, segment_steps, first_fault}
use Rattle.varcoef_magnus_graph_traj_step.specs.StepTaken.{Kept, StepTaken, step_image}
use Rattle.varcoef_magnus_graph_traj_step.proofs.Kept.{kept-all, kept_then, kept_put}
use Rattle.varcoef_magnus_graph_traj_steps.specs.SampledSteps.{sampled_step_fault, sampled_step_image}
use Rattle.magnus_graph_traj_steps.specs.StepsTaken.{StepsTaken}
use Rattle.magnus_graph_traj_steps.proofs.Courses.{segment-grows, segment_before}
use Rattle.magnus_graph_traj_steps.proofs.StepsTaken.{run-along-append, refusal-stays, one-taken}

-- ---- step by step

-- a step of law 2 that starts at t, whose samples lie at t1 and t2, the fractions f1 and f2 of the way through the segment
module _ (n : ℕ) (row_starts cols : List ℕ) (starts ends start_weights end_weights : List Float) (first : Segment) (steps : ℕ) where
  abbrev fraction_in : Segment → Float → Float
  fraction_in s c = fraction (sample_time (adjoint_step_start s.tau steps s.step) c s.tau) s.start s.end

  -- the step that takes its samples at these fractions
  abbrev TakenAt : Float → Float → Float → Checked → List Float → List Float → Type 0
  TakenAt τ f1 f2 answer w w' =
      let m = length starts in
      let k = length start_weights in
      StepTaken n row_starts cols τ (law_values m f1 starts ends) (law_values m f2 starts ends)
      (law_values k f1 start_weights end_weights) (law_values k f2 start_weights end_weights) answer w w'

  pub sampled-one : (j : ℕ) (s : Segment) {t t1 t2 f1 f2 : Float} {answer : Checked} {w w' : List Float}
      → s ≡ segment_before first j
      → t ≡ adjoint_step_start s.tau steps s.step
      → t1 ≡ sample_time t c1 s.tau
      → t2 ≡ sample_time t c2 s.tau
      → f1 ≡ fraction t1 s.start s.end
      → f2 ≡ fraction t2 s.start s.end
      → TakenAt s.tau f1 f2 answer w w'
      → StepsTaken (sampled_step_fault n row_starts cols starts ends start_weights end_weights first.start first.end first.tau steps)
      (sampled_step_image n row_starts cols starts ends start_weights end_weights first.start first.end first.tau steps)
      n (11 * n + 2 * length cols) (step_in 0 j ∷ []) answer w w'
  sampled-one j s {answer = answer} {w = w} {w' = w'} here begins first-sample second-sample first-fraction second-fraction taken =
      let p1 = first-fraction ∙ ap (λ (x : Float). fraction x s.start s.end) (first-sample ∙ ap (λ (x : Float). sample_time x c1 s.tau) begins) in
      let p2 = second-fraction ∙ ap (λ (x : Float). fraction x s.start s.end) (second-sample ∙ ap (λ (x : Float). sample_time x c2 s.tau) begins) in
      let placed = subst₂ (λ (x y : Float). TakenAt s.tau x y answer w w') p1 p2 taken in
      let same = subst (λ (v : Segment). TakenAt v.tau (fraction_in v c1) (fraction_in v c2) answer w w') here placed in
      one-taken (step_in 0 j) same.answer-is same.held same.kept.length-kept same.kept.rest

-- ---- one list for all steps

-- a fault that all steps share
shared-accepted : (f : Checked) (ss : List RunStep) → f ≡ Accepted → first_fault (λ (s : RunStep). f) ss ≡ Accepted
unfolding first_fault next
shared-accepted f [] p = refl
shared-accepted f (s ∷ ss) p = ap (λ (g : Checked). next g (first_fault (λ (s : RunStep). f) ss)) p ∙ shared-accepted f ss p

shared-refused : (f : Checked) (steps : ℕ) (q : Refusal) → 0 < steps → f ≡ Refused q
    → first_fault (λ (s : RunStep). f) (segment_steps 0 steps) ≡ Refused q
unfolding first_fault next tabulate
shared-refused f steps q l p =
    refusal-stays (λ (s : RunStep). f) (segment_steps 0) (λ k. step_in 0 k ∷ []) (segment-grows 0) 1 steps q l
    (ap (λ (g : Checked). next g Accepted) p)

module _ (n : ℕ) (row_starts cols : List ℕ) (τ : Float) (x a : List Float) where
  abbrev need : ℕ
  need = 11 * n + 2 * length cols

  abbrev root : List Float
  root = map (square_root binary64) a

  abbrev image : List Float → List Float
  image = step_image n row_starts cols τ x x a a

  -- j of the steps were taken; the roots of the weights lie in the work slice
  pub record ConstantWalked (steps j : ℕ) (w₀ w : List Float) : Type 0 where
    pub within : j ≤ steps
    pub held : part 0 n w ≡ run_along (λ (s : RunStep). image) (segment_steps 0 j) (part 0 n w₀)
    pub roots : part (6 * n) n w ≡ root
    pub kept : Kept need w₀ w

  pub constant-begins : (steps : ℕ) (w w₁ : List Float)
      → length a ≡ n
      → need ≤ length w
      → w₁ ≡ put (6 * n) root w
      → ConstantWalked steps 0 w w₁
  unfolding run_along tabulate
  constant-begins steps w w₁ size room taken =
      let s = length-map a (square_root binary64) ∙ size in
      record {
        within = omega arith;
        held = ap (part 0 n) taken ∙ part-of-put-before (6 * n) root w 0 n (omega arith);
        roots = ap (part (6 * n) n) taken ∙ part-of-put (6 * n) n root w s (omega arith);
        kept = kept_put (6 * n) root w w₁ (omega arith) taken;
      }

  -- the loop starts from there, and what it reaches is reached from before
  pub constant-starts : {steps : ℕ} {w w₁ : List Float} → ConstantWalked steps 0 w w₁ → ConstantWalked steps 0 w₁ w₁
  unfolding run_along tabulate
  constant-starts {steps} {w} {w₁} ready =
      record { within = ready.within; held = refl; roots = ready.roots; kept = kept-all w₁ }

  pub constant-from : {steps j : ℕ} {w w₁ w' : List Float} → ConstantWalked steps 0 w w₁ → ConstantWalked steps j w₁ w'
      → ConstantWalked steps j w w'
  unfolding run_along tabulate
  constant-from {steps} {j} ready walked = record {
    within = walked.within;
    held = walked.held ∙ ap (run_along (λ (s : RunStep). image) (segment_steps 0 j)) ready.held;
    roots = walked.roots;
    kept = kept_then ready.kept walked.kept;
  }

  abbrev L : List Float → List Float
  L = row_product64 n row_starts cols x

  pub constant-on : {steps j : ℕ} {w₀ w w' : List Float}
      → ConstantWalked steps j w₀ w
      → j < steps
      → TermsAdded (ieee binary64) n (6 * n) (reciprocal_factorial binary64) 4
      (weighted_omega4 (ieee binary64) n minus_half sqrt3_over12 adjoint τ L L (part (6 * n) n w) (part (6 * n) n w)) w w'
      → ConstantWalked steps (j + 1) w₀ w'
  unfolding run_along tabulate
  constant-on {steps} {j} {w₀} {w} {w'} walked l terms =
      let step : part 0 n w' ≡ image (part 0 n w) =
      terms.sum
      ∙ (λ i. taylor (ieee binary64) n (reciprocal_factorial binary64) 4
      (weighted_omega4 (ieee binary64) n minus_half sqrt3_over12 adjoint τ L L (walked.roots i) (walked.roots i)) (part 0 n w)) in
      let grown : run_along (λ (s : RunStep). image) (segment_steps 0 (suc j)) (part 0 n w₀)
      ≡ image (run_along (λ (s : RunStep). image) (segment_steps 0 j) (part 0 n w₀)) =
      run-along-append (λ (s : RunStep). image) (segment_steps 0 j) (step_in 0 j ∷ []) (part 0 n w₀) in
      record {
        within = omega arith;
        held =
            step ∙ ap image walked.held ∙ sym grown
            ∙ ap (λ (k : ℕ). run_along (λ (s : RunStep). image) (segment_steps 0 k) (part 0 n w₀)) (sym (add-one j));
        roots = ap (take n) (terms.rest (6 * n) (omega arith)) ∙ walked.roots;
        kept = kept_then walked.kept (record { length-kept = terms.length-kept; rest = λ k h. terms.rest k (omega arith) });
      }

  abbrev Taken : ℕ → Checked → List Float → List Float → Type 0
  Taken steps answer w w' =
      StepsTaken (λ (s : RunStep). weight_fault a a) (λ (s : RunStep). image) n need (segment_steps 0 steps) answer w w'

  pub constant-ends : {check : Checked} {steps j : ℕ} {w₀ w : List Float}
      → check ≡ sample_weights_fault a
      → check ≡ Accepted
      → ConstantWalked steps j w₀ w
      → steps ≤ j
      → Taken steps Accepted w₀ w
  unfolding weight_fault next
  constant-ends {check} {steps} {j} {w₀} {w} made accepted walked l =
      let e : j ≡ steps = omega (arith, walked.within) in
      let one = sym made ∙ accepted in
      let both : weight_fault a a ≡ Accepted = ap (λ (g : Checked). next g (sample_weights_fault a)) one ∙ one in
      record {
        answer-is = sym (shared-accepted (weight_fault a a) (segment_steps 0 steps) both);
        held = λ p.
            walked.held ∙ ap (λ (k : ℕ). run_along (λ (s : RunStep). image) (segment_steps 0 k) (part 0 n w₀)) e;
        length-kept = walked.kept.length-kept;
        rest = walked.kept.rest;
      }

  pub constant-refused : {check : Checked} {steps : ℕ} {q : Refusal} (w : List Float)
      → check ≡ sample_weights_fault a
      → check ≡ Refused q
      → 0 < steps
      → Taken steps check w w
  unfolding weight_fault next
  constant-refused {check} {steps} {q} w made refused l =
      let both : weight_fault a a ≡ Refused q = ap (λ (g : Checked). next g (sample_weights_fault a)) (sym made ∙ refused) in
      record {
        answer-is = refused ∙ sym (shared-refused (weight_fault a a) steps q l both);
        held = λ p. absurd (refused-not-accepted refl refused p);
        length-kept = refl;
        rest = λ j h. refl;
      }
