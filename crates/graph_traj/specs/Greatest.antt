-- The last place at which a test holds. Assumes nothing.
use Rattle.std.specs.Prelude.{◌≡◌, refl, Bool, true, false, cond, ℕ, zero, suc, ◌<◌}
use Rattle.std.proofs.Common.{sym, ◌∙◌, ⊎_elim, true≢false, not-suc-le-zero, eq-or-lt_of_le, le_of_suc-le-suc, arith}

-- the greatest i below n at which the test holds, and 0 where there is none
unfoldable pub greatest : (ℕ → Bool) → ℕ → ℕ
greatest p zero = zero
greatest p (suc n) = cond (p n) n (greatest p n)

-- ---- what `greatest` says

-- i is below n, p holds at i, and it holds at no later place
pub record IsGreatest (p : ℕ → Bool) (n i : ℕ) : Type 0 where
  pub within : i < n
  pub found : p i ≡ true
  pub none : (j : ℕ) → i < j → j < n → p j ≡ false

-- `greatest` is such a number where p holds somewhere
pub greatest-is : (p : ℕ → Bool) (n k : ℕ) → k < n → p k ≡ true → IsGreatest p n (greatest p n)
unfolding greatest
greatest-is p zero k l h = absurd (not-suc-le-zero l)
greatest-is p (suc n) k l h = by-last-place (p n) refl (greatest-is p n k)
  where
    by-last-place : (b : Bool)
        → p n ≡ b
        → (k < n → p k ≡ true → IsGreatest p n (greatest p n))
        → IsGreatest p (suc n) (cond b n (greatest p n))
    by-last-place true e earlier =
        record { within = omega arith; found = e; none = λ j later below. absurd (omega arith) }
    by-last-place false e earlier =
        let g =
        ⊎_elim (λ (same : k ≡ n). absurd (true≢false (sym h ∙ rw same e)))
        (λ (below : k < n). earlier below h)
        (eq-or-lt_of_le (le_of_suc-le-suc l)) in
        record {
          within = omega (arith, g.within);
          found = g.found;
          none = λ j later below.
              ⊎_elim (λ (same : j ≡ n). rw same e)
              (λ (less : j < n). g.none j later less)
              (eq-or-lt_of_le (le_of_suc-le-suc below));
        }

-- and no other number is
pub greatest-only : {p : ℕ → Bool} {n i : ℕ} → IsGreatest p n i → i ≡ greatest p n
greatest-only {p} {n} {i} h =
    let g = greatest-is p n i h.within h.found in
    let low : i < greatest p n → ⊥ = λ l. true≢false (sym g.found ∙ h.none (greatest p n) l g.within) in
    let high : greatest p n < i → ⊥ = λ l. true≢false (sym h.found ∙ g.none i l h.within) in
    omega arith
