-- A value that is no NaN has the pattern that it is written in; any other is NaN, and so is the value of the constant.
use Rattle.std.proofs.Common.{◌≡◌, refl, sym, ◌∙◌, subst}
use lib.Dec.{T}
use mathlib.Core.Bool.{Bool, true, not, cond}
use lib.Ieee.{Float, nan, inf, fin, binary64, of_bits, is_nan}
use lib.Ieee.Bits.{of_bits-to_bits}
use Rattle.job_text_digits.proofs.kernel.pattern.Goals as goal

is-nan : (x : Float) → is_nan x ≡ true → x ≡ nan
unfolding is_nan
is-nan nan h = refl
is-nan (inf s) h = absurd (subst (λ (b : Bool). cond b ⊥ Unit) h tt)
is-nan (fin s m e) h = absurd (subst (λ (b : Bool). cond b ⊥ Unit) h tt)

quiet-nan : of_bits binary64 0x7FF8000000000000 ≡ nan
unfolding of_bits
quiet-nan = refl

pub float_to_bits-result : goal.float_to_bits-result
float_to_bits-result c = subst (λ (b : Bool). T (not b)) (sym (sym c.is_nan.ensures.value ∙ c.if-is_nan.false)) tt

pub returns-then-is_nan : goal.returns-then-is_nan
returns-then-is_nan c = quiet-nan ∙ sym (is-nan _ (sym c.is_nan.ensures.value ∙ c.if-is_nan.true))

pub returns-else-is_nan : goal.returns-else-is_nan
returns-else-is_nan c = of_bits-to_bits binary64 _ (subst T (sym c.well_formed.0.1) tt)
