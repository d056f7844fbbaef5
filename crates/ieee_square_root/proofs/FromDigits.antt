-- From the digits of a root to the root, at binary64: that the digits are all of the format's, and that their pattern is the root's.
-- Assumes nothing.
use mathlib.Core.Path.{◌≡◌, sym, ◌∙◌}
use mathlib.Core.Bool.{not}
use Prim.Native.Nat.{ℕ, ◌+◌, ◌-◌, ◌*◌, ◌/◌, ◌%◌, ◌^◌, ◌≤◌, ◌<◌}
use native.Mathlib.Nat.{le_trans, le_of_lt, lt_of_lt_of_le, lt_of_le_of_lt, lt_of_not-le, lt_irrefl, mul-le-mul}
use native.Mathlib.Omega.{arith}
use lib.Dec.{T, lit<}
use lib.IntN.{ℤ}
use lib.Ieee.{binary64, of_bits, nan_bits}
use Rattle.ieee_square_root.specs.SquareRoot.{square_root}
use Rattle.ieee_square_root.specs.Steps.{RootDigits, Scaled, magnitude}
use Rattle.ieee_square_root.proofs.Agreement.{square_root-by-digits}
use Rattle.ieee_square_root.proofs.FromBits.{magnitude-positive, bits-value, pattern-below, pattern-is, no_nan}

-- ---- the digits are 53

pub root-full : {d r : ℕ} → 2 ^ 52 ≤ d → RootDigits d r → 2 ^ 52 ≤ r
root-full {d} {r} low q = below_next (lt_of_not-le (λ (g : r + 1 ≤ 4503599627370496). lt_irrefl (d * 4503599627370496)
    (lt_of_le_of_lt (le_trans q.upper (mul-le-mul (before g) g)) (lt_of_lt_of_le (lit< tt) (scaled low)))))
  where
    before : {r : ℕ} → r + 1 ≤ 4503599627370496 → r ≤ 4503599627370495
    before h = omega arith

    below_next : {r : ℕ} → 4503599627370496 < r + 1 → 4503599627370496 ≤ r
    below_next h = omega arith

    scaled : {d : ℕ} → 2 ^ 52 ≤ d → 4503599627370496 * 4503599627370496 ≤ d * 4503599627370496
    scaled h = omega arith

pub root_kept : {d r : ℕ} → d < 2 ^ 54 - 1 → RootDigits d r → r < 2 ^ 53
root_kept {d} {r} high q = lt_of_not-le (λ (g : 9007199254740992 ≤ r). lt_irrefl (d * 4503599627370496)
    (lt_of_le_of_lt (scaled high) (lt_of_le_of_lt (mul-le-mul (before g) g) q.lower)))
  where
    before : {r : ℕ} → 9007199254740992 ≤ r → 9007199254740991 ≤ r - 1
    before h = omega arith

    scaled : {d : ℕ} → d < 2 ^ 54 - 1 → d * 4503599627370496 ≤ 9007199254740991 * 9007199254740992
    scaled h = omega arith

-- ---- the pattern

module _ {bits d : ℕ} {h : ℤ} (v : Scaled bits d h) {r : ℕ} (q : RootDigits d r) where
  pub pattern-small : T (not (nan_bits binary64 (v.place * 4503599627370496 + r)))
  pattern-small = no_nan binary64 (v.place * 4503599627370496 + r)
      (le_of_lt (pattern-below binary64 v.place r (root-full v.lower q) (root_kept v.upper q) (omega (arith, v.most))))

  -- the pattern is that of the definition's root of the value with these bits
  pub root_is : 0 < bits
      → bits < 0x7FF0_0000_0000_0000
      → of_bits binary64 (v.place * 4503599627370496 + r) ≡ square_root binary64 (of_bits binary64 bits)
  root_is positive finite =
      pattern-is binary64 v.place r (root-full v.lower q) (root_kept v.upper q) (omega (arith, v.most))
      ∙ sym (square_root-by-digits binary64 (of_bits binary64 bits) m (d * 2 ^ 52) v.place r (bits-value binary64 bits finite) above v.value
      (scaled-low v.lower) (scaled-high v.upper) q.lower q.upper)
    where
      m : ℕ
      m = magnitude binary64 (bits / 2 ^ 52) (bits % 2 ^ 52)

      scaled-low : 2 ^ 52 ≤ d → 4 ^ 52 ≤ d * 2 ^ 52
      scaled-low h = omega arith

      scaled-high : d < 2 ^ 54 - 1 → d * 2 ^ 52 < 4 ^ 53
      scaled-high h = omega arith

      above : 0 < m
      above = magnitude-positive binary64 (bits / 2 ^ 52) (bits % 2 ^ 52) digits
        where
          digits : bits / 4503599627370496 ≡ 0 → 0 < bits % 4503599627370496
          digits z = omega arith
