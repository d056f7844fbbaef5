-- NaN: the tests that find one, its bit patterns, and a quotient that makes one. Assumes nothing.
use mathlib.Core.Path.{◌≡◌, refl, sym, ap, ◌∙◌, subst}
use mathlib.Core.Bool.{Bool, true, false, not, cond}
use Prim.Native.Nat.{ℕ}
use lib.Dec.{T}
use lib.Ieee.{Float, nan, inf, fin, Format, of_bits, nan_bits, is_nan, ne, eq, div}
use lib.Ieee.Bits.{nan_bits_is}
use lib.Ieee.Compare.{differs_from_itself}
use Rattle.rounding.specs.SignOfZero.{+0}

-- ---- by comparison with itself

pub unequal-to-itself : (x : Float) → ne x x ≡ true → x ≡ nan
unequal-to-itself x h = differs_from_itself x (subst T (sym h) tt)

pub equal-to-itself : (x : Float) → ne x x ≡ false → T (not (is_nan x))
unfolding ne eq is_nan
equal-to-itself nan h = subst (λ (b : Bool). cond b ⊥ Unit) (sym h) tt
equal-to-itself (inf s) h = tt
equal-to-itself (fin s m e) h = tt

-- ---- by bit patterns

is-nan : (x : Float) → is_nan x ≡ true → x ≡ nan
unfolding is_nan
is-nan nan h = refl
is-nan (inf s) h = absurd (subst (λ (b : Bool). cond b ⊥ Unit) h tt)
is-nan (fin s m e) h = absurd (subst (λ (b : Bool). cond b ⊥ Unit) h tt)

pub nan_pattern : (f : Format) (b : ℕ) → nan_bits f b ≡ true → of_bits f b ≡ nan
nan_pattern f b h = is-nan (of_bits f b) (sym (nan_bits_is f b) ∙ h)

pub pattern-of-nan : (f : Format) (b : ℕ) → of_bits f b ≡ nan → nan_bits f b ≡ true
unfolding is_nan
pattern-of-nan f b h = nan_bits_is f b ∙ ap is_nan h

-- ---- 0 / 0

pub zero-quotient : (f : Format) → div f +0 +0 ≡ nan
unfolding div
zero-quotient f = refl
