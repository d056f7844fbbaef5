-- What the definitions of specs/SignOfZero.antt say: `Same` is the equality up to the sign of a zero that document 01 coins for demand 3 (the
-- paragraph after "Plain run"), and equal values of a format are those with equal bits. Assumes nothing.
use Rattle.std.specs.Prelude.{◌≡◌, refl, ◌↔◌, ◌⊎◌, zero, suc, T, Float}
use Rattle.std.proofs.Common.{sym, ap, ◌∙◌, subst, inl, inr}
use Rattle.std.specs.Float.{nan, inf, fin, Format}
use Rattle.std.specs.Float.Ieee.{fits, to_bits, of_bits}
use Rattle.std.specs.Float.Ieee.Bits.{of_bits-to_bits}
use Rattle.rounding.specs.SignOfZero.{+0, Zero, plus_zero, Same}

changes-zeros-only : (x : Float) → (plus_zero x ≡ x) ⊎ Zero x
unfolding plus_zero
changes-zeros-only nan = inl refl
changes-zeros-only (inf s) = inl refl
changes-zeros-only (fin s zero e) = inr tt
changes-zeros-only (fin s (suc m) e) = inl refl

plus_zero-of-zero : (x : Float) → Zero x → plus_zero x ≡ +0
unfolding plus_zero
plus_zero-of-zero nan z = absurd z
plus_zero-of-zero (inf s) z = absurd z
plus_zero-of-zero (fin s zero e) z = refl
plus_zero-of-zero (fin s (suc m) e) z = absurd z

zero-of-plus_zero : (x : Float) → plus_zero x ≡ +0 → Zero x
unfolding plus_zero
zero-of-plus_zero x p = go x (subst Zero (sym p) tt)
  where
    go : (x : Float) → Zero (plus_zero x) → Zero x
    go nan z = z
    go (inf s) z = z
    go (fin s zero e) z = tt
    go (fin s (suc m) e) z = z

-- two values are the same exactly when they are equal or both are zeros
pub same-is : {x y : Float} → Same x y ↔ ((x ≡ y) ⊎ (Zero x × Zero y))
same-is {x} {y} = (λ r. says r.path (changes-zeros-only x) (changes-zeros-only y), holds)
  where
    says : plus_zero x ≡ plus_zero y → (plus_zero x ≡ x) ⊎ Zero x → (plus_zero y ≡ y) ⊎ Zero y → (x ≡ y) ⊎ (Zero x × Zero y)
    says r (inl p) (inl q) = inl (sym p ∙ r ∙ q)
    says r (inl p) (inr z) = inr (zero-of-plus_zero x (r ∙ plus_zero-of-zero y z), z)
    says r (inr z) q = inr (z, zero-of-plus_zero y (sym r ∙ plus_zero-of-zero x z))

    holds : (x ≡ y) ⊎ (Zero x × Zero y) → Same x y
    holds (inl p) = record { path = ap plus_zero p }
    holds (inr z) = record { path = plus_zero-of-zero x z.0 ∙ sym (plus_zero-of-zero y z.1) }

-- a value is a zero exactly when it is the same as +0
pub zero_is : {x : Float} → Same x +0 ↔ Zero x
unfolding plus_zero
zero_is {x} = (λ r. zero-of-plus_zero x r.path, λ z. record { path = plus_zero-of-zero x z })

-- two values of a format are equal exactly when their bits are
pub equal-bits : (f : Format) (x y : Float) → T (fits f x) → T (fits f y) → (x ≡ y) ↔ (to_bits f x ≡ to_bits f y)
equal-bits f x y p q = (ap (to_bits f), λ b. sym (of_bits-to_bits f x p) ∙ ap (of_bits f) b ∙ of_bits-to_bits f y q)
