-- What the Gershgorin bound says, in any format. The absolute value of v is v without its sign, up to the sign of a
-- zero. The bound is not below any row's sum, and it is +0 or the sum of a row. Assumes nothing.
use mathlib.Core.Path.{◌≡◌, refl, sym, ◌∙◌, subst}
use mathlib.Core.Bool.{Bool, true, false, true≢false}
use mathlib.Core.Logic.{◌⊎◌, inl, inr, ⊎_elim}
use mathlib.Core.List.{List}
use Prim.Native.Nat.{ℕ, zero as none, suc, ◌+◌, ◌*◌, ◌-◌, ◌<◌}
use native.Mathlib.Nat.{not-suc-le-zero, eq-or-lt_of_le, le_of_suc-le-suc, mul-pos, zero-lt-suc}
use native.Mathlib.Omega.{arith}
use borrow.Author.Tests.{ltb-true, ltb-false}
use lib.Dec.{T}
use lib.IntN.{pos}
use lib.ListN.{length}
use lib.Ieee.{Float, Format, nan, inf, fin, up, down, neg, lt, fits}
use lib.Ieee
use lib.Ieee.Fits.{neg-fits, up_pos, down_pos}
use Rattle.rounding.specs.SignOfZero.{+0, Same}
use Rattle.rounding.proofs.SignOfZero.{same-is}
use Rattle.rounding.proofs.ExactRounding.{zero-numerator}
use Rattle.rounding.proofs.Same.{same_refl, same-equal, same-trans}
use Rattle.rounding.proofs.Zeros.{add-zero-left}
use Rattle.arithmetic.specs.Arithmetic.{ieee, ieee-zero}
use Rattle.graph_bound.specs.Gershgorin.{absolute, larger, largest_to, row_absolute_sum, gershgorin_bound}
use Rattle.graph_bound.proofs.Gershgorin.{larger-first, larger-second, absolute-below, absolute-not-below}
use Rattle.graph_bound.proofs.Less.{less-irreflexive, less-transitive}

-- ---- the larger of two values

-- the larger is not below the second value, nor below any value that the first is not below
larger-not-below-second : (x y : Float) → T (lt (larger x y) y) → ⊥
larger-not-below-second x y = by_answer (lt x y) refl
  where
    by_answer : (b : Bool) → lt x y ≡ b → T (lt (larger x y) y) → ⊥
    by_answer true e h = less-irreflexive y (rw (larger-second x y e) at h)
    by_answer false e h = subst T e (rw (larger-first x y e) at h)

larger-not-below : (x y z : Float) → (T (lt x z) → ⊥) → T (lt (larger x y) z) → ⊥
larger-not-below x y z other = by_answer (lt x y) refl
  where
    by_answer : (b : Bool) → lt x y ≡ b → T (lt (larger x y) z) → ⊥
    by_answer true e h = other (less-transitive x y z (subst T (sym e) tt) (rw (larger-second x y e) at h))
    by_answer false e h = other (rw (larger-first x y e) at h)

-- and it is one of the two
larger-is-one : (x y : Float) → (larger x y ≡ x) ⊎ (larger x y ≡ y)
larger-is-one x y = by_answer (lt x y) refl
  where
    by_answer : (b : Bool) → lt x y ≡ b → (larger x y ≡ x) ⊎ (larger x y ≡ y)
    by_answer true e = inr (larger-second x y e)
    by_answer false e = inl (larger-first x y e)

-- ---- the largest

module _ (f : Format) where
  pub largest-not-below : (s : ℕ → Float) (n i : ℕ) → i < n → T (lt (largest_to f s n) (s i)) → ⊥
  unfolding largest_to
  largest-not-below s none i l = absurd (not-suc-le-zero l)
  largest-not-below s (suc n) i l =
      ⊎_elim (λ (e : i ≡ n). rw e (larger-not-below-second (largest_to f s n) (s n)))
      (λ (k : i < n). larger-not-below (largest_to f s n) (s n) (s i) (largest-not-below s n i k))
      (eq-or-lt_of_le (le_of_suc-le-suc l))

  pub largest-is-one : (s : ℕ → Float) (n : ℕ)
      → (largest_to f s n ≡ (ieee f).zero) ⊎ ((i : ℕ) × (i < n) × (largest_to f s n ≡ s i))
  unfolding largest_to
  largest-is-one s none = inl refl
  largest-is-one s (suc n) =
      ⊎_elim (λ first. ⊎_elim (λ e. inl (first ∙ e))
      (λ found. inr (found.0, omega (arith, found.1), first ∙ found.2))
      (largest-is-one s n))
      (λ second. inr (n, omega arith, second))
      (larger-is-one (largest_to f s n) (s n))

  module _ (starts : List ℕ) (vals : List Float) where
    -- no row's sum is above the bound
    pub bound-not-below : (i : ℕ) → i < length starts - 1
        → T (lt (gershgorin_bound f starts vals) (row_absolute_sum f starts vals i)) → ⊥
    unfolding gershgorin_bound
    bound-not-below i l = largest-not-below _ _ i l

    -- and the bound is +0 or the sum of a row
    pub bound-is-one : (gershgorin_bound f starts vals ≡ +0)
        ⊎ ((i : ℕ) × (i < length starts - 1) × (gershgorin_bound f starts vals ≡ row_absolute_sum f starts vals i))
    unfolding gershgorin_bound
    bound-is-one = rw (← ieee-zero f) (largest-is-one _ _)

-- ---- the absolute value

-- v with its sign taken away
abbrev pub without_sign : Float → Float
without_sign nan = nan
without_sign (inf s) = inf false
without_sign (fin s m e) = fin false m e

-- a value below +0, negated
less-negated : (v : Float) → lt v +0 ≡ true → neg v ≡ without_sign v
unfolding lt neg
less-negated nan h = absurd (true≢false (sym h))
less-negated (inf true) h = refl
less-negated (inf false) h = absurd (true≢false (sym h))
less-negated (fin true m e) h = refl
less-negated (fin false m e) h =
    let less = ltb-true (m * up e * down (pos 0)) (0 * up (pos 0) * down e) h in
    absurd (omega (arith, less, zero-numerator (up (pos 0)) (down e)))

-- a value that is not below +0
not-less-kept : (v : Float) → lt v +0 ≡ false → Same v (without_sign v)
unfolding lt
not-less-kept nan h = same_refl nan
not-less-kept (inf true) h = absurd (true≢false h)
not-less-kept (inf false) h = same_refl (inf false)
not-less-kept (fin false m e) h = same_refl (fin false m e)
not-less-kept (fin true none e) h = same-is.1 (inr (tt, tt))
not-less-kept (fin true (suc m) e) h =
    let zero = ltb-false 0 (suc m * up e * down (pos 0) + 0 * up (pos 0) * down e) h in
    let above = mul-pos (mul-pos (zero-lt-suc m) (up_pos e)) (down_pos (pos 0)) in
    absurd (omega arith)

pub absolute-is : (f : Format) (v : Float) → T (fits f v) → Same (absolute f v) (without_sign v)
unfolding Ieee.sub
absolute-is f v fit = by_answer (lt v (ieee f).zero) refl
  where
    by_answer : (b : Bool) → lt v (ieee f).zero ≡ b → Same (absolute f v) (without_sign v)
    by_answer true e =
        rw (absolute-below f v e)
        (same-trans (add-zero-left f (same-equal (ieee-zero f)) (neg-fits f v fit))
        (same-equal (less-negated v (rw (ieee-zero f) at e))))
    by_answer false e = rw (absolute-not-below f v e) (not-less-kept v (rw (ieee-zero f) at e))
