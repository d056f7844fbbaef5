-- What a chain of checks, one for each place, answers: it is accepted exactly when all its checks are, and its refusal is the first one.
-- Assumes nothing.
use mathlib.Core.Path.{◌≡◌, refl, sym, ◌∙◌}
use mathlib.Core.Logic.{◌↔◌, inl, ⊎_elim}
use Prim.Native.Nat.{ℕ, zero, suc, ◌+◌, ◌≤◌, ◌<◌}
use native.Mathlib.Nat.{not-suc-le-zero, eq-or-lt_of_le, le_of_suc-le-suc, le_refl}
use native.Mathlib.Numerals.{add-one}
use native.Mathlib.Omega.{arith}
use Rattle.error.specs.declared.Refusal.{Refusal}
use Rattle.error.specs.Answer.{Checked}
use Rattle.error.specs.Answer.{Accepted, Refused}
use Rattle.error.proofs.Checks.{next-accepted, next-refused, accepted-then}
use Rattle.graph_traj_faults.specs.Each.{each}

module _ (check : ℕ → Checked) where
  pub each-accepted : (n : ℕ) → (each check n ≡ Accepted) ↔ ((i : ℕ) → i < n → check i ≡ Accepted)
  unfolding each
  each-accepted zero = (λ h i l. absurd (not-suc-le-zero l), λ h. refl)
  each-accepted (suc n) = (
    λ h i l.
        let g = (next-accepted _ _).0 h in
        ⊎_elim (λ (e : i ≡ n). rw e g.1) (λ (m : i < n). (each-accepted n).0 g.0 i m) (eq-or-lt_of_le (le_of_suc-le-suc l)),
    λ h. (next-accepted _ _).1 ((each-accepted n).1 (λ i l. h i (omega arith)), h n (le_refl (suc n))),
  )

  -- a refusal stays when checks are added
  stays : (m n : ℕ) (r : Refusal) → m ≤ n → each check m ≡ Refused r → each check n ≡ Refused r
  unfolding each
  stays m zero r l h = let e : m ≡ zero = omega arith in rw e at h
  stays m (suc n) r l h =
      ⊎_elim (λ (e : m ≡ suc n). rw e at h)
      (λ (k : m < suc n). (next-refused _ _ r).1 (inl (stays m n r (le_of_suc-le-suc k) h)))
      (eq-or-lt_of_le l)

  -- no check before i refused; check i was made, with the answer a, which is a refusal and the chain's answer
  pub each-refused-here : (n i : ℕ) (a : Checked) (r : Refusal)
      → i < n
      → each check i ≡ Accepted
      → a ≡ check i
      → a ≡ Refused r
      → a ≡ each check n
  unfolding each
  each-refused-here n i a r l before e p =
      let here : each check (suc i) ≡ Refused r = sym (accepted-then _ _ _ _ refl before (sym (sym e ∙ p))) in
      p ∙ sym (stays (suc i) n r l here)

  -- check i was made too, and accepted
  pub each-accepted-then : (i : ℕ) (a : Checked)
      → each check i ≡ Accepted
      → a ≡ check i
      → a ≡ Accepted
      → each check (i + 1) ≡ Accepted
  unfolding each
  each-accepted-then i a before e p = rw add-one ((next-accepted _ _).1 (before, sym e ∙ p))

  pub each_none : each check 0 ≡ Accepted
  unfolding each
  each_none = refl
