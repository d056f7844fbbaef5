-- `root_near` meets its contract, by x's bit pattern: a NaN, a zero and the infinity are their own roots, a negative value has none, and
-- the digits of any other are found by `root`.
use mathlib.Core.Path.{◌≡◌, refl, sym, ap, ◌∙◌, subst}
use Prim.Native.Nat.{ℕ, ◌<◌, ◌≤◌}
use native.Mathlib.Omega.{arith}
use lib.Dec.{T}
use lib.Ieee.{Float, nan, binary64, of_bits, to_bits, fits}
use lib.Ieee.Bits.{of_bits-to_bits, to_bits-lt}
use Rattle.ieee_square_root.specs.SquareRoot.{square_root}
use Rattle.ieee_square_root.proofs.Special.{nan-root, negative-bits, infinite-bits, zero-root, minus-zero-root}
use Rattle.square_root.proofs.kernel.root_near.Goals as goal

nan-is : of_bits binary64 0x7FF8_0000_0000_0000 ≡ nan
unfolding of_bits
nan-is = refl

-- x is the value of its own bits, so what is known of that value's root is known of x's
module _ (x : Float) (held : T (fits binary64 x)) where
  own_bits : of_bits binary64 (to_bits binary64 x) ≡ x
  own_bits = of_bits-to_bits binary64 x held

  root-of-own-bits : {r : Float} {b : ℕ} → to_bits binary64 x ≡ b → r ≡ square_root binary64 (of_bits binary64 b) → r ≡ square_root binary64 x
  root-of-own-bits h e = e ∙ ap (square_root binary64) (ap (of_bits binary64) (sym h) ∙ own_bits)

  no-root : 0x8000_0000_0000_0000 < to_bits binary64 x → of_bits binary64 0x7FF8_0000_0000_0000 ≡ square_root binary64 x
  no-root h = nan-is ∙ sym (ap (square_root binary64) (sym own_bits) ∙ negative-bits binary64 (to_bits binary64 x) h (to_bits-lt binary64 x held))

  own-root : 0x7FF0_0000_0000_0000 ≤ to_bits binary64 x → to_bits binary64 x < 0x8000_0000_0000_0000 → x ≡ square_root binary64 x
  own-root l h = root-of-own-bits refl (sym own_bits ∙ infinite-bits binary64 (to_bits binary64 x) l h)

pub returns-then-is_nan : goal.returns-then-is_nan
returns-then-is_nan c = nan-root binary64 c.args.x (sym c.is_nan.ensures.value ∙ c.if-is_nan.true)

pub returns-in-0 : goal.returns-in-0
returns-in-0 c = root-of-own-bits c.args.x (subst T (sym c.well_formed.0.1) tt) c.in-0.is zero-root

pub returns-in-9223372036854775808 : goal.returns-in-9223372036854775808
returns-in-9223372036854775808 c = root-of-own-bits c.args.x (subst T (sym c.well_formed.0.1) tt) c.in-9223372036854775808.is minus-zero-root

pub returns-in-1-to-9218868437227405311 : goal.returns-in-1-to-9218868437227405311
returns-in-1-to-9218868437227405311 c = root-of-own-bits c.args.x (subst T (sym c.well_formed.0.1) tt) refl c.root.ensures

pub returns-in-9218868437227405312-to-9223372036854775807 :
    goal.returns-in-9218868437227405312-to-9223372036854775807
returns-in-9218868437227405312-to-9223372036854775807 c = own-root c.args.x (subst T (sym c.well_formed.0.1) tt) (omega arith) (omega arith)

pub returns-in_default : goal.returns-in_default
returns-in_default c = no-root c.args.x (subst T (sym c.well_formed.0.1) tt) (omega arith)
