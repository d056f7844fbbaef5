-- The first place at which a test holds, the answer of a search for it, and the refusal that names it. Assumes nothing.
use Rattle.std.specs.Prelude.{◌≡◌, ℕ, zero, suc, ◌<◌, ◌≤◌, Bool, true, false, cond, nat_lt, refl, Option, Some, None}
use Rattle.std.proofs.Common.{sym, ◌∙◌, true≢false, not-suc-le-zero, le_of_suc-le-suc, arith}
use Rattle.std.proofs.Math.Nat.{suc-le-suc_iff}
use Rattle.error.specs.Checks.{refuse_if}
use Rattle.error.specs.declared.Refusal.{Refusal}
use Rattle.error.specs.Answer.{Checked}

-- the first i below n with p i, and n where there is none
unfoldable pub first : (ℕ → Bool) → ℕ → ℕ
first p zero = zero
first p (suc n) = cond (p zero) zero (suc (first (λ i. p (suc i)) n))

-- the answer of a search: the first place below n at which the test holds; None where there is none
unfoldable pub find_first : (ℕ → Bool) → ℕ → Option ℕ
find_first p n = cond (nat_lt (first p n) n) (Some (first p n)) None

-- a closure, of which post says what its calls return, makes the test p at each place below n
abbrev pub Tests : (ℕ → Bool → Type 0) → (ℕ → Bool) → ℕ → Type 0
Tests post p n = (k : ℕ) (r : Bool) → k < n → post k r → r ≡ p k

-- the refusal of the first place below n at which the test holds; Accepted where there is none
unfoldable pub refuse_first : (ℕ → Bool) → ℕ → (ℕ → Refusal) → Checked
refuse_first p n refusal = refuse_if (nat_lt (first p n) n) (refusal (first p n))

-- ---- what `first` says

-- i is at most n, p holds at no place before i, and it holds at i unless i is n
pub record IsFirst (p : ℕ → Bool) (n i : ℕ) : Type 0 where
  pub within : i ≤ n
  pub none : (j : ℕ) → j < i → p j ≡ false
  pub found : i < n → p i ≡ true

-- `first` is such a number
pub first-is : (p : ℕ → Bool) (n : ℕ) → IsFirst p n (first p n)
unfolding first
first-is p zero =
    record {
      within = omega arith;
      none = λ j l. absurd (not-suc-le-zero l);
      found = λ l. absurd (not-suc-le-zero l);
    }
first-is p (suc n) = by-place-zero (first (λ i. p (suc i)) n) (first-is (λ i. p (suc i)) n) (p zero) refl
  where
    by-place-zero : (i : ℕ)
        → IsFirst (λ i. p (suc i)) n i
        → (b : Bool)
        → p zero ≡ b
        → IsFirst p (suc n) (cond b zero (suc i))
    by-place-zero i h true e =
        record { within = omega arith; none = λ j l. absurd (not-suc-le-zero l); found = λ l. e }
    by-place-zero i h false e =
        record {
          within = suc-le-suc_iff.1 h.within;
          none = before;
          found = λ l. h.found (le_of_suc-le-suc l);
        }
      where
        before : (j : ℕ) → j < suc i → p j ≡ false
        before zero l = e
        before (suc j) l = h.none j (le_of_suc-le-suc l)

-- and no other number is
pub first-only : {p : ℕ → Bool} {n i : ℕ} → IsFirst p n i → i ≡ first p n
first-only {p} {n} {i} h =
    let g = first-is p n in
    let low : i < first p n → ⊥ = λ l. true≢false (sym (h.found (omega arith)) ∙ g.none i l) in
    let high : first p n < i → ⊥ = λ l. true≢false (sym (g.found (omega arith)) ∙ h.none (first p n) l) in
    omega arith
