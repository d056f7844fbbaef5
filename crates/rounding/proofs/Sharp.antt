-- The least step length by its bits, and that no smaller bound would do: for the value one pattern below it -0.5 * τ is
-- not half of τ, and (-0.5 * τ) * (y + y) is not τ * (-y) for y = 1. Points computed from the definitions.
-- Assumes nothing.
use mathlib.Core.Path.{◌≡◌, refl, ap}
use mathlib.Core.Bool.{true, false}
use Prim.Native.Nat.{◌*◌}
use lib.IntN.{pos}
use lib.Ieee.{Float, fin, Format, binary32, binary64, of_bits, to_bits, neg, add, mul}
use lib.Ieee.Fits.{eq→eqb}
use lib.Ieee.Exact.{HasValue}
use lib.Ieee.Positive.{num, den}
use Rattle.rounding.specs.StepLength.{least_step, step_length, minus_half}

pub least_step-binary64 : least_step binary64 ≡ of_bits binary64 0x0020000000000000
unfolding of_bits
least_step-binary64 = refl

pub least_step-binary32 : least_step binary32 ≡ of_bits binary32 0x01000000
unfolding of_bits
least_step-binary32 = refl

-- the value one pattern below the least step length
abbrev pub below : Format → Float
unfolding of_bits
below binary32 = of_bits binary32 0x00FFFFFF
below binary64 = of_bits binary64 0x001FFFFFFFFFFFFF

-- it is no step length
pub below-refused : (f : Format) → step_length f (below f) ≡ false
unfolding step_length of_bits
below-refused binary32 = refl
below-refused binary64 = refl

-- -0.5 times it is not half of it, negated
pub half-not-exact : (f : Format) → HasValue (mul f minus_half (below f)) true (num (below f)) (2 * den (below f)) → ⊥
unfolding of_bits mul
half-not-exact binary32 v = eq→eqb v.1
half-not-exact binary64 v = eq→eqb v.1

unfoldable pub one : Float
one = fin false 1 (pos 0)

-- So for it and y = 1 the law `half-times-twice` fails: on the left stands -2 ^ (prec - low), on the right the value
-- itself, negated.
pub half-times-twice-fails : (f : Format)
    → mul f (mul f minus_half (below f)) (add f one one) ≡ mul f (below f) (neg one)
    → ⊥
unfolding of_bits to_bits one mul add neg
half-times-twice-fails binary32 p = eq→eqb (ap (to_bits binary32) p)
half-times-twice-fails binary64 p = eq→eqb (ap (to_bits binary64) p)
