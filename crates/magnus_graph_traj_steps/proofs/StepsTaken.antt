-- How steps of a run follow one another: the steps of two lists taken one after the other are those of the two lists together, a refusal
-- stays where more steps would have followed, and steps that are said otherwise are the same steps. Assumes nothing.
use mathlib.Core.Path.{◌≡◌, refl, sym, ap, ◌∙◌}
use mathlib.Core.Logic.{inl, ⊎_elim}
use mathlib.Core.List.{List, [], ◌∷◌, ◌++◌}
use Prim.Native.Nat.{ℕ, zero, suc, ◌≤◌, ◌<◌}
use native.Mathlib.Nat.{eq-or-lt_of_le, le_of_suc-le-suc}
use native.Mathlib.Omega.{arith}
use lib.ListN.{length, drop}
use lib.Ieee.{Float}
use Rattle.arithmetic.specs.Vector.{tabulate}
use Rattle.scratch.specs.Parts.{part}
use Rattle.error.specs.Checks.{next}
use Rattle.error.specs.declared.Refusal.{Refusal}
use Rattle.error.specs.Answer.{Checked}
use Rattle.error.specs.Answer.{Accepted, Refused}
use Rattle.error.proofs.Checks.{next-refused, next-assoc, accepted-then}
use Rattle.magnus_plain_sum.specs.Run.{run_along}
use Rattle.magnus_graph_faults.proofs.StepSound.{refused-not-accepted}
use Rattle.magnus_graph_traj_steps.specs.RunSteps.{RunStep, step_in, segment_steps, first_fault}
use Rattle.magnus_graph_traj_steps.specs.StepsTaken.{StepsTaken}

-- ---- lists of steps

module _ {S : Type 0} where
  pub run-along-append : {X : Type 0} (image : S → X → X) (ss rest : List S) (v : X)
      → run_along image (ss ++ rest) v ≡ run_along image rest (run_along image ss v)
  unfolding run_along
  run-along-append image [] rest v = refl
  run-along-append image (s ∷ ss) rest v = run-along-append image ss rest (image s v)

  module _ (fault : S → Checked) where
    pub first-fault-append : (ss rest : List S) → first_fault fault (ss ++ rest) ≡ next (first_fault fault ss) (first_fault fault rest)
    unfolding first_fault next
    first-fault-append [] rest = refl
    first-fault-append (s ∷ ss) rest =
        ap (next (fault s)) (first-fault-append ss rest) ∙ sym (next-assoc (fault s) (first_fault fault ss) (first_fault fault rest))

    -- a list of steps that grows, part by part: a refusal stays
    pub refusal-stays : (grown more : ℕ → List S)
        → ((n : ℕ) → grown (suc n) ≡ grown n ++ more n)
        → (m n : ℕ) (r : Refusal)
        → m ≤ n
        → first_fault fault (grown m) ≡ Refused r
        → first_fault fault (grown n) ≡ Refused r
    refusal-stays grown more grows m zero r l h = let e : m ≡ zero = omega arith in rw e at h
    refusal-stays grown more grows m (suc n) r l h =
        ⊎_elim (λ (e : m ≡ suc n). rw e at h)
        (λ (k : m < suc n).
        ap (first_fault fault) (grows n) ∙ first-fault-append (grown n) (more n)
        ∙ (next-refused _ _ r).1 (inl (refusal-stays grown more grows m n r (le_of_suc-le-suc k) h)))
        (eq-or-lt_of_le l)

-- a check that nothing follows
accepted-last : (c : Checked) → c ≡ next c Accepted
unfolding next
accepted-last Accepted = refl
accepted-last (Refused r) = refl

-- ---- steps in the work slice

module _ {fault : RunStep → Checked} {image : RunStep → List Float → List Float} {n need : ℕ} where
  -- none
  pub none-taken : (w : List Float) → StepsTaken fault image n need [] Accepted w w
  unfolding first_fault run_along
  none-taken w = record { answer-is = refl; held = λ p. refl; length-kept = refl; rest = λ j h. refl }

  -- one
  pub one-taken : (s : RunStep) {answer : Checked} {w w' : List Float}
      → answer ≡ fault s
      → (answer ≡ Accepted → part 0 n w' ≡ image s (part 0 n w))
      → length w' ≡ length w
      → ((j : ℕ) → need ≤ j → drop j w' ≡ drop j w)
      → StepsTaken fault image n need (s ∷ []) answer w w'
  unfolding first_fault run_along
  one-taken s is held kept rest = record { answer-is = is ∙ accepted-last _; held = held; length-kept = kept; rest = rest }

  -- one list after the other
  pub more-taken : {ss more : List RunStep} {answer : Checked} {w w' w'' : List Float}
      → StepsTaken fault image n need ss Accepted w w'
      → StepsTaken fault image n need more answer w' w''
      → StepsTaken fault image n need (ss ++ more) answer w w''
  more-taken {ss} {more} {answer} before after = record {
    answer-is =
        accepted-then answer Accepted _ _ before.answer-is refl after.answer-is ∙ sym (first-fault-append _ ss more);
    held = λ p.
        after.held p ∙ ap (run_along image more) (before.held refl) ∙ sym (run-along-append image ss more _);
    length-kept = after.length-kept ∙ before.length-kept;
    rest = λ j h. after.rest j h ∙ before.rest j h;
  }

  -- no more steps were taken after a refusal
  pub stays-refused : (grown more : ℕ → List RunStep)
      → ((k : ℕ) → grown (suc k) ≡ grown k ++ more k)
      → {k m : ℕ} {r : Refusal} {answer : Checked} {w w' : List Float}
      → k ≤ m
      → answer ≡ Refused r
      → StepsTaken fault image n need (grown k) answer w w'
      → StepsTaken fault image n need (grown m) answer w w'
  stays-refused grown more grows {k} {m} {r} l p taken = record {
    answer-is = p ∙ sym (refusal-stays _ grown more grows k m r l (sym taken.answer-is ∙ p));
    held = λ a. absurd (refused-not-accepted refl p a);
    length-kept = taken.length-kept;
    rest = taken.rest;
  }

-- ---- the same steps of a segment, said otherwise

module _ (i : ℕ) (fault fault' : RunStep → Checked) (image image' : RunStep → List Float → List Float)
    (faults : (j : ℕ) → fault (step_in i j) ≡ fault' (step_in i j))
    (images : (j : ℕ) → image (step_in i j) ≡ image' (step_in i j)) where
  same-fault : (steps : ℕ) → first_fault fault (segment_steps i steps) ≡ first_fault fault' (segment_steps i steps)
  unfolding first_fault tabulate
  same-fault zero = refl
  same-fault (suc j) =
      first-fault-append fault (segment_steps i j) (step_in i j ∷ [])
      ∙ (λ x. next (same-fault j x) (next (faults j x) Accepted))
      ∙ sym (first-fault-append fault' (segment_steps i j) (step_in i j ∷ []))

  same-image : (steps : ℕ) (v : List Float) → run_along image (segment_steps i steps) v ≡ run_along image' (segment_steps i steps) v
  unfolding run_along tabulate
  same-image zero v = refl
  same-image (suc j) v =
      run-along-append image (segment_steps i j) (step_in i j ∷ []) v
      ∙ (λ x. images j x (same-image j v x))
      ∙ sym (run-along-append image' (segment_steps i j) (step_in i j ∷ []) v)

  pub same_taken : (steps : ℕ) {n need : ℕ} {answer : Checked} {w w' : List Float}
      → StepsTaken fault image n need (segment_steps i steps) answer w w'
      → StepsTaken fault' image' n need (segment_steps i steps) answer w w'
  same_taken steps {n} {w = w} taken = record {
    answer-is = taken.answer-is ∙ same-fault steps;
    held = λ p. taken.held p ∙ same-image steps (part 0 n w);
    length-kept = taken.length-kept;
    rest = taken.rest;
  }
