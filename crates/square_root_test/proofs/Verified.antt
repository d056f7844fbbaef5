-- What verifies a root from bit patterns, without finding it: the digits are nearest, and the exponent is half of the value's. Assumes nothing.
use mathlib.Core.Path.{◌≡◌, refl, sym, ap, ◌∙◌, subst}
use mathlib.Core.Logic.{◌⊎◌, inl, inr, ⊎_elim}
use Prim.Native.Nat.{ℕ, ◌+◌, ◌-◌, ◌*◌, ◌/◌, ◌%◌, ◌^◌, ◌≤◌, ◌<◌}
use native.Mathlib.Decide.{dec_le}
use native.Mathlib.Omega.{arith}
use lib.Bits.{bit_and, bit_xor}
use lib.Ieee.{Float, binary64, of_bits}
use lib.IntN.{ℤ, pos, nat_abs, ◌-ℤ◌}
use mir.Syntax.{w64}
use mir.Val.{to_z}
use Rattle.ieee_square_root.specs.SquareRoot.{square_root}
use Rattle.ieee_square_root.specs.Steps.{half_down, RootDigits, Normalized, Scaled, PatternOf}
use Rattle.ieee_square_root.proofs.Exponent.{normal-exponent, normal-is}
use Rattle.ieee_square_root.proofs.FromDigits.{root_is}
use Rattle.ieee_square_root.proofs.Halving.{Placed, placed, half-placed, even-rest, rest-even, even_is, odd_is}
use Rattle.square_root_digits_test.proofs.SignBit.{both-set, same_set, all_digits, no-digits}

-- the significand of a normal value, and with the factor 2 that an odd exponent, the field less 1023, leaves
abbrev pub significand : ℕ → ℕ
significand bits = 4503599627370496 + bits % 4503599627370496

abbrev pub odd : ℕ → ℕ
odd bits = (bits / 4503599627370496 + 1) % 2

abbrev pub radicand : ℕ → ℕ
radicand bits = significand bits + bit_and (significand bits) (9223372036854775808 - odd bits)

significand-small : (bits : ℕ) → significand bits < 2 ^ 63
significand-small bits = omega arith

with-factor : (bits : ℕ) → odd bits ≡ 1 → radicand bits ≡ 2 * significand bits
with-factor bits h =
    ap (λ (k : ℕ). significand bits + bit_and (significand bits) (9223372036854775808 - k)) h
    ∙ twice (significand bits) (all_digits (significand bits) (significand-small bits))
  where
    twice : (s : ℕ) {m : ℕ} → m ≡ s → s + m ≡ 2 * s
    twice s e = omega arith

without-factor : (bits : ℕ) → odd bits ≡ 0 → radicand bits ≡ significand bits
without-factor bits h =
    ap (λ (k : ℕ). significand bits + bit_and (significand bits) (9223372036854775808 - k)) h
    ∙ once (significand bits) (no-digits (significand bits) (significand-small bits))
  where
    once : (s : ℕ) {m : ℕ} → m ≡ 0 → s + m ≡ s
    once s e = omega arith

parity : (bits : ℕ) → (odd bits ≡ 0) ⊎ (odd bits ≡ 1)
parity bits = elim (dec_le (odd bits) 0) [
  | yes l ↦ inl (omega arith)
  | no l ↦ inr (omega arith)
]

module _ (bits : ℕ) (normal : 1 ≤ bits / 4503599627370496) (finite : bits / 4503599627370496 ≤ 2046) where
  below : bits < 0x7FF0_0000_0000_0000
  below = omega arith

  abbrev exponent : ℤ
  exponent = to_z w64 (bits / 4503599627370496) -ℤ pos 1023

  exponent-placed : Placed exponent (bits / 4503599627370496 + 51)
  exponent-placed = placed exponent (normal-exponent (bits / 4503599627370496) finite)

  value : Normalized bits (significand bits) exponent
  value = normal-is bits exponent below (λ z. omega arith) refl

  -- the value with its exponent halved, and the place of that half
  scaled : Scaled bits (radicand bits) (half_down exponent)
  scaled = ⊎_elim with-even with-odd (parity bits)
    where
      with-even : odd bits ≡ 0 → Scaled bits (radicand bits) (half_down exponent)
      with-even h =
          subst (λ (d : ℕ). Scaled bits d (half_down exponent)) (sym (without-factor bits h))
          (even_is bits (significand bits) exponent value (even-rest exponent-placed (omega arith)))

      with-odd : odd bits ≡ 1 → Scaled bits (radicand bits) (half_down exponent)
      with-odd h =
          subst (λ (d : ℕ). Scaled bits d (half_down exponent)) (sym (with-factor bits h))
          (odd_is bits (significand bits) exponent value (λ same. uneven (bits / 4503599627370496) h (rest-even exponent-placed same)))
        where
          uneven : (f : ℕ) → (f + 1) % 2 ≡ 1 → (f + 51) % 2 ≡ 0 → ⊥
          uneven f h k = omega arith

  place_is : scaled.place ≡ (bits / 4503599627370496 + 51) / 2 + 485
  place_is = ap nat_abs (sym scaled.at ∙ half-placed exponent-placed)

  pub verified : {x y : Float} {root : ℕ}
      → PatternOf x bits
      → PatternOf y root
      → RootDigits (radicand bits) (4503599627370496 + root % 4503599627370496)
      → root / 4503599627370496 + odd bits ≡ bits / 4503599627370496 / 2 + 512
      → y ≡ square_root binary64 x
  verified {root = root} of-x of-y digits half =
      sym (of-y.value (omega arith))
      ∙ ap (of_bits binary64) (whole root (bits / 4503599627370496) scaled.place place_is half)
      ∙ root_is scaled digits (omega arith) below
      ∙ ap (square_root binary64) (of-x.value (omega arith))
    where
      whole : (root f place : ℕ) → place ≡ (f + 51) / 2 + 485 → root / 4503599627370496 + (f + 1) % 2 ≡ f / 2 + 512
          → root ≡ place * 4503599627370496 + (4503599627370496 + root % 4503599627370496)
      whole root f place e h = omega arith

-- the same from the sign bits: t tells of the digits, two words that the value is normal and finite, and the last one of the exponent
pub passed : {x y : Float} {bits root t : ℕ}
    → PatternOf x bits
    → PatternOf y root
    → (2 ^ 63 ≤ t → RootDigits (radicand bits) (4503599627370496 + root % 4503599627370496))
    → 2 ^ 63 ≤ bit_and
    (bit_and (bit_and t (9223372036854775808 + bits / 4503599627370496 - 1)) (9223372036854775808 + 2046 - bits / 4503599627370496))
    (9223372036854775808 - bit_xor (root / 4503599627370496 + odd bits) (bits / 4503599627370496 / 2 + 512))
    → y ≡ square_root binary64 x
passed {bits = bits} of-x of-y digits set =
    let (first, half) = both-set _ _ set in
    let (second, finite) = both-set _ _ first in
    let (test, normal) = both-set _ _ second in
    verified bits (omega arith) (omega arith) of-x of-y (digits test) (same_set _ _ half)
