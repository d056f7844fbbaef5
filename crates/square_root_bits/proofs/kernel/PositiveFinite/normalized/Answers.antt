-- `normalized` meets its contract. With a field of 0 the bits are the digits: they are shifted up until the leading one stands at 2^52, and
-- the exponent falls by as much. Otherwise the hidden digit is added and the exponent is the field less 1023.
use mathlib.Core.Path.{◌≡◌, sym, subst}
use Prim.Native.Nat.{ℕ, ◌+◌, ◌-◌, ◌*◌, ◌/◌, ◌%◌, ◌^◌, ◌≤◌, ◌<◌}
use native.Mathlib.Omega.{arith}
use lib.Count.{count_leading_zeros}
use lib.IntN.{ℤ, negsuc, ◌-ℤ◌}
use mir.Syntax.{w64}
use mir.Val.{of_z, to_z}
use Rattle.ieee_square_root.specs.Steps.{Normalized}
use Rattle.ieee_square_root.proofs.Exponent.{read_back, Shifted, shifted, normal-exponent-fits, shifted-exponent-fits, subnormal-is, normal-is}
use Rattle.square_root_bits.proofs.kernel.PositiveFinite.normalized.Goals as goal

-- how far the digits are shifted
abbrev shift : ℕ → ℕ
shift bits = count_leading_zeros 64 bits - 11

module _ (bits : ℕ) (positive : 0 < bits) (no-field : bits / 4503599627370496 ≡ 0) where
  leading-zeros : (11 ≤ count_leading_zeros 64 bits) × Shifted bits (shift bits)
  leading-zeros = shifted bits positive (omega arith)

  own-digits : bits % 4503599627370496 ≡ bits
  own-digits = omega arith

  subnormal : Normalized bits (bits * 2 ^ shift bits % 18446744073709551616) (to_z w64 (of_z w64 (negsuc 1021 -ℤ to_z w64 (shift bits))))
  subnormal =
      let moved = leading-zeros.1 in
      subst (λ (digits : ℕ). Normalized bits (digits * 2 ^ shift bits % 18446744073709551616) (to_z w64 (of_z w64 (negsuc 1021 -ℤ to_z w64 (shift bits)))))
      own-digits
      (subnormal-is bits _ _ no-field (subst (λ (digits : ℕ). Shifted digits (shift bits)) (sym own-digits) moved)
      (read_back (shifted-exponent-fits _ moved.positive moved.most)))

with-digits : {bits digits : ℕ} {e : ℤ} → digits ≡ 4503599627370496 + bits % 4503599627370496
    → Normalized bits (4503599627370496 + bits % 4503599627370496) e
    → Normalized bits digits e
with-digits {bits} {digits} {e} h = subst (λ (d : ℕ). Normalized bits d e) (sym h)

pub overflow_sub-shift : goal.overflow_sub-shift
overflow_sub-shift c = let x = c.args.self in (leading-zeros x.bits x.in_range.0 c.if-field-eq0.true).0

pub invariant_of-result : goal.invariant_of-result
invariant_of-result c =
    let x = c.args.self in
    let value = subnormal x.bits x.in_range.0 c.if-field-eq0.true in
    record { in_range = (value.lower, value.upper) }

pub returns-then-field-eq0 : goal.returns-then-field-eq0
returns-then-field-eq0 c = let x = c.args.self in subnormal x.bits x.in_range.0 c.if-field-eq0.true

pub returns : goal.returns
returns c =
    let x = c.args.self in
    let field : x.bits / 4503599627370496 ≤ 2046 = omega arith in
    with-digits c.from_bits.ensures
    (normal-is x.bits _ x.in_range.1 c.if-field-eq0.false (read_back (normal-exponent-fits (x.bits / 4503599627370496) field)))
