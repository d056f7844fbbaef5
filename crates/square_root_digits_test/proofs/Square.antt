-- The square of a root's digits, in parts of 26 digits, and the two tests that show them nearest. Assumes nothing.
use mathlib.Core.Path.{◌≡◌, sym, ap, ◌∙◌}
use Prim.Native.Nat.{ℕ, zero, suc, ◌+◌, ◌-◌, ◌*◌, ◌/◌, ◌%◌, ◌^◌, ◌≤◌, ◌<◌}
use native.Mathlib.Nat.{le_trans, le_of_eq, mul_assoc, suc-mul}
use native.Mathlib.Omega.{arith}
use lib.Bits.{bit_and}
use Rattle.ieee_square_root.specs.Steps.{RootDigits}
use Rattle.ieee_square_root.proofs.Digits.{square-in-parts, parts-of, with-next}
use Rattle.square_root_digits_test.proofs.SignBit.{both-set}

-- r * r is high * 2 ^ 52 + low
abbrev pub middle : ℕ → ℕ
middle r = 2 * (r / 67108864 * (r % 67108864))

abbrev pub low : ℕ → ℕ
low r = middle r % 67108864 * 67108864 + r % 67108864 * (r % 67108864)

abbrev pub high : ℕ → ℕ
high r = r / 67108864 * (r / 67108864) + middle r / 67108864

square-is : (r : ℕ) → r * r ≡ high r * 4503599627370496 + low r
square-is r =
    let a = r / 67108864 in
    let b = r % 67108864 in
    ap (λ (x : ℕ). x * x) (parts-of r)
    ∙ square-in-parts a b
    ∙ regroup (a * a) (2 * a * b) (2 * (a * b)) (b * b) (mul_assoc 2 a b)
  where
    regroup : (p q m t : ℕ) → q ≡ m
        → 4503599627370496 * p + 67108864 * q + t ≡ (p + m / 67108864) * 4503599627370496 + (m % 67108864 * 67108864 + t)
    regroup p q m t h = omega arith

-- where the sign bit of both differences is set, neither is below 0, and r is nearest
pub tested : (m r : ℕ)
    → 2 ^ 52 ≤ r
    → r < 2 ^ 53
    → 2 ^ 63 ≤ bit_and (9223372036854775808 + (high r + (low r + r) / 4503599627370496) - m)
    (9223372036854775808 + (m + 1) - (high r + (low r + (9007199254740992 - r)) / 4503599627370496))
    → RootDigits m r
tested m r full kept set = let (above, below) = both-set _ _ set in record {
  lower = lower-test m r (high r) (low r) (r * r) ((r - 1) * r) (square-is r) (before r full) kept below;
  upper = le_trans (upper-test m r (high r) (low r) (r * r) (square-is r) above) (le_of_eq (sym (with-next r)));
}
  where
    before : (r : ℕ) → 2 ^ 52 ≤ r → (r - 1) * r + r ≡ r * r
    before zero h = absurd (omega arith)
    before (suc r) h = ap (λ (x : ℕ). x * suc r + suc r) (less r) ∙ sym (suc-mul r (suc r))
      where
        less : (r : ℕ) → suc r - 1 ≡ r
        less r = omega arith

    upper-test : (m r h l s : ℕ) → s ≡ h * 4503599627370496 + l
        → 9223372036854775808 ≤ 9223372036854775808 + (h + (l + r) / 4503599627370496) - m
        → m * 4503599627370496 ≤ s + r
    upper-test m r h l s e t = omega arith

    lower-test : (m r h l s b : ℕ) → s ≡ h * 4503599627370496 + l → b + r ≡ s → r < 2 ^ 53
        → 9223372036854775808 ≤ 9223372036854775808 + (m + 1) - (h + (l + (9007199254740992 - r)) / 4503599627370496)
        → b < m * 4503599627370496
    lower-test m r h l s b e f k t = omega arith
