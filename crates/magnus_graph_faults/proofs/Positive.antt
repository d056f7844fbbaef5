-- What rows 9 and 11 refuse: a value is not refused exactly when it lies above 0 and is finite. Assumes nothing.
use mathlib.Core.Path.{◌≡◌, refl, sym, ap, ◌∙◌}
use mathlib.Core.Logic.{◌↔◌}
use mathlib.Core.Bool.{Bool, true, false, not, ◌&&◌, ◌||◌, and-true, and-eq-true_iff}
use Prim.Native.Nat.{ℕ, ◌+◌, ◌*◌}
use native.Mathlib.Omega.{arith}
use native.Mathlib.Nat.{zero-mul}
use lib.Dec.{ltb, eqb}
use lib.IntN.{pos}
use lib.Ieee.{Float, nan, inf, fin, binary64, up, down, lt, le, eq, of_bits}
use lib.Ieee.Scale.{finite}
use borrow.Author.Tests.{ltb-true, ltb-false, eqb-true, eqb-false, lt-ltb, le-ltb, eq-eqb, not-true}
use Rattle.rounding.specs.SignOfZero.{+0}
use Rattle.magnus_graph_faults.specs.StepChecks.{not_positive}
use Rattle.magnus_graph_faults.specs.AcceptedStep.{Positive}

-- a > b is the opposite of a ≤ b, as the comparison of two values with the sign + is made of them
above : (a b : ℕ) → ltb b a ≡ not (ltb a b || eqb a b && true)
above a b = go (ltb a b) refl (eqb a b) refl
  where
    go : (l : Bool) → ltb a b ≡ l → (e : Bool) → eqb a b ≡ e → ltb b a ≡ not (l || e && true)
    go true p e q = let h = ltb-true a b p in le-ltb b a (omega arith)
    go false p true q = let h = eqb-true a b q in le-ltb b a (omega arith)
    go false p false q =
        let h = ltb-false a b p in
        let g = eqb-false a b q in
        lt-ltb b a (omega arith)

-- -a ≤ 0
negative : (a z : ℕ) → z ≡ 0 → (ltb 0 (a + z) || eqb a z && eqb a 0) ≡ true
negative a z none = go (ltb 0 (a + z)) refl
  where
    go : (l : Bool) → ltb 0 (a + z) ≡ l → (l || eqb a z && eqb a 0) ≡ true
    go true p = refl
    go false p =
        let h = ltb-false 0 (a + z) p in
        ap (λ (b : Bool). b && eqb a 0) (eq-eqb a z (omega arith)) ∙ eq-eqb a 0 (omega arith)

above-zero-and-finite : (x : Float) → (lt +0 x && finite x) ≡ not (not (finite x) || le x +0)
unfolding lt le eq
above-zero-and-finite nan = refl
above-zero-and-finite (inf true) = refl
above-zero-and-finite (inf false) = refl
above-zero-and-finite (fin false m e) = and-true _ ∙ above (m * up e * down (pos 0)) (0 * up (pos 0) * down e)
above-zero-and-finite (fin true m e) =
    sym (ap not (negative (m * up e * down (pos 0)) (0 * up (pos 0) * down e) (zero-mul (down e))))

-- the test that the code makes
pub positive-by-tests : (x : Float) → (lt (of_bits binary64 0) x && finite x) ≡ not (not_positive x)
unfolding not_positive of_bits
positive-by-tests x = above-zero-and-finite x

-- what is not refused is positive, and no other value is
pub positive-accepted : (x : Float) → (not_positive x ≡ false) ↔ Positive x
unfolding not_positive of_bits
positive-accepted x = (says, holds)
  where
    left_not : (a b : Bool) → (not a || b) ≡ false → a ≡ true
    left_not true b p = refl
    left_not false b p = sym p

    says : not_positive x ≡ false → Positive x
    says h =
        record {
          is_finite = left_not (finite x) (le x +0) h;
          above_zero = ((and-eq-true_iff _ _).0 (above-zero-and-finite x ∙ ap not h)).0;
        }

    holds : Positive x → not_positive x ≡ false
    holds p =
        not-true _
        (sym (above-zero-and-finite x)
        ∙ (and-eq-true_iff _ _).1 (p.above_zero, p.is_finite))
