-- What the steps of the square root promise. Definitions, and what `half_down` is.
use Rattle.std.specs.Prelude.{◌≡◌, not, ℕ, zero, suc, ◌+◌, ◌-◌, ◌*◌, ◌/◌, ◌%◌, ◌^◌, ◌≤◌, ◌<◌, T, ℤ, pos, negsuc, ◌+ℤ◌, Float}
use Rattle.std.specs.Float.{Format, binary64}
use Rattle.std.specs.Float.Ieee.{hid, of_bits, nan_bits}

-- half of e, toward minus infinity (01, part 4: an odd negative exponent is halved so)
abbrev pub half_down : ℤ → ℤ
half_down (pos a) = pos (a / 2)
half_down (negsuc a) = negsuc (a / 2)

-- r is the whole number nearest to the root of radicand * 2 ^ 52: that lies above (r - 1) * r, and is at most r * (r + 1)
pub record RootDigits (radicand r : ℕ) : Type 0 where
  pub lower : (r - 1) * r < radicand * 2 ^ 52
  pub upper : radicand * 2 ^ 52 ≤ r * (r + 1)

-- The magnitude of a finite value of the format, from the exponent's field x and the digits t of its bits, in units of the format's
-- smallest value. A field of 0 has no hidden digit.
abbrev pub magnitude : Format → ℕ → ℕ → ℕ
magnitude f zero t = t
magnitude f (suc x) t = (hid f + t) * 2 ^ x

-- The value with these bits is significand * 2 ^ (exponent - 52). The exponent is counted from -1074 by `place`.
pub record Normalized (bits significand : ℕ) (exponent : ℤ) : Type 0 where
  pub lower : 2 ^ 52 ≤ significand
  pub upper : significand < 2 ^ 53
  pub place : ℕ
  pub at : exponent +ℤ pos 1074 ≡ pos place
  pub most : place ≤ 2097
  pub value : magnitude binary64 (bits / 2 ^ 52) (bits % 2 ^ 52) * 2 ^ 52 ≡ significand * 2 ^ place

-- The value with these bits is radicand * 2 ^ (2 * exponent - 52). Its root's exponent is counted from -1022 by `place`.
pub record Scaled (bits radicand : ℕ) (exponent : ℤ) : Type 0 where
  pub lower : 2 ^ 52 ≤ radicand
  pub upper : radicand < 2 ^ 54 - 1
  pub place : ℕ
  pub at : exponent +ℤ pos 1022 ≡ pos place
  pub most : place ≤ 1533
  pub value : magnitude binary64 (bits / 2 ^ 52) (bits % 2 ^ 52) * 2 ^ 1074 ≡ radicand * 2 ^ 52 * 4 ^ place

-- b is no NaN's bit pattern, and unless it is 0 it is x's.
pub record PatternOf (x : Float) (b : ℕ) : Type 0 where
  pub no_nan : T (not (nan_bits binary64 b))
  pub value : 0 < b → of_bits binary64 b ≡ x
