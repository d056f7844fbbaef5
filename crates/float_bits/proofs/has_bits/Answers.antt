-- `has_bits` meets its contract: a NaN has every NaN's pattern and no other, and any other value has the one pattern that it is written in.
-- Assumes nothing.
use mathlib.Core.Path.{◌≡◌, refl, sym, ap, ◌∙◌, subst}
use mathlib.Core.Bool.{Bool, true, false, not, cond}
use Prim.Native.Nat.{ℕ, ◌^◌, ◌<◌}
use lib.Dec.{T, eqb}
use lib.Ieee.{Float, nan, inf, fin, binary64, of_bits, to_bits, nan_bits, is_nan, fits}
use lib.Ieee.Bits.{of_bits-to_bits, to_bits-of_bits, nan_bits_is}
use borrow.Author.Tests.{eqb-true, eq-eqb}
use Rattle.rounding.proofs.Nan.{nan_pattern, pattern-of-nan}
use Rattle.float_bits.proofs.has_bits.Goals as goal

is-nan : (x : Float) → is_nan x ≡ true → x ≡ nan
unfolding is_nan
is-nan nan h = refl
is-nan (inf s) h = absurd (subst (λ (b : Bool). cond b ⊥ Unit) h tt)
is-nan (fin s m e) h = absurd (subst (λ (b : Bool). cond b ⊥ Unit) h tt)

is-number : (x : Float) → is_nan x ≡ false → T (not (is_nan x))
is-number x h = subst (λ (b : Bool). T (not b)) (sym h) tt

module _ (x : Float) (b : ℕ) where
  abbrev Matches : Bool → Type 0
  Matches r = (r ≡ true → x ≡ of_bits binary64 b) × (x ≡ of_bits binary64 b → r ≡ true)

  nan-matches : is_nan x ≡ true → (r : Bool) → r ≡ nan_bits binary64 b → Matches r
  nan-matches h r e =
      let n = is-nan x h in
      ((λ t. n ∙ sym (nan_pattern binary64 b (sym e ∙ t))), (λ p. e ∙ pattern-of-nan binary64 b (sym p ∙ n)))

  number-differs : is_nan x ≡ false → nan_bits binary64 b ≡ true → Matches false
  unfolding is_nan
  number-differs h n = (
    (λ t. absurd (subst (λ (b : Bool). cond b ⊥ Unit) t tt)),
    (λ p. absurd (subst (λ (v : Float). T (not (is_nan v))) (p ∙ nan_pattern binary64 b n) (is-number x h))),
  )

  number-matches : T (fits binary64 x) → b < 2 ^ 64 → nan_bits binary64 b ≡ false → Matches (eqb (to_bits binary64 x) b)
  number-matches f l n = (
    (λ t. sym (of_bits-to_bits binary64 x f) ∙ ap (of_bits binary64) (eqb-true (to_bits binary64 x) b t)),
    (λ p. eq-eqb (to_bits binary64 x) b
        (ap (to_bits binary64) p ∙ to_bits-of_bits binary64 b l (subst (λ (t : Bool). T (not t)) (sym n ∙ nan_bits_is binary64 b) tt))),
  )

pub returns-then-is_nan : goal.returns-then-is_nan
returns-then-is_nan c = nan-matches _ _ (sym c.is_nan.ensures.value ∙ c.if-is_nan.true) _ c.is_nan_pattern.ensures

pub returns-then-is_nan_pattern : goal.returns-then-is_nan_pattern
returns-then-is_nan_pattern c = number-differs _ _ (sym c.is_nan.ensures.value ∙ c.if-is_nan.false) (sym c.is_nan_pattern-2.ensures ∙ c.if-is_nan_pattern.true)

pub float_to_bits-result : goal.float_to_bits-result
float_to_bits-result c = is-number _ (sym c.is_nan.ensures.value ∙ c.if-is_nan.false)

pub returns : goal.returns
returns c =
    number-matches _ _ (subst T (sym c.well_formed.0.1) tt) c.ranges.bits.fits (sym c.is_nan_pattern-2.ensures ∙ c.if-is_nan_pattern.false)
