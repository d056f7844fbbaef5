-- What the definitions leave open: nothing, but which NaN's pattern stands for a NaN. Two examples are written out.
-- Assumes nothing.
use mathlib.Core.Path.{◌≡◌, refl, sym, ap, ◌∙◌, subst}
use mathlib.Core.Logic.{◌↔◌}
use mathlib.Core.Bool.{Bool, true, false, not}
use mathlib.Core.List.{List, [], ◌∷◌, ◌++◌, map}
use Prim.Native.Nat.{ℕ, ◌^◌, ◌<◌}
use native.Mathlib.Omega.{arith}
use lib.Dec.{T}
use lib.ListN.{length, length-map}
use lib.Ieee.{Float, nan, binary64, of_bits, to_bits, nan_bits, is_nan}
use lib.Ieee.Bits.{to_bits-of_bits, nan_bits_is}
use Rattle.rounding.proofs.Nan.{pattern-of-nan}
use Rattle.error.specs.declared.Refusal.TheVariants.{NoNodes}
use Rattle.job_text_digits.specs.Numbers.{decimal, digits, digit, places, places_within, hexadecimal16, RealText}
use Rattle.job_text.specs.Text.{newline}
use Rattle.job_text.specs.Text.{done_word, Lines, DoneText, done, RefusedText, refused}
use Rattle.job_text.specs.Text.Lines.{none as no_line, line}
use Rattle.job_text_row.specs.Spaced.Spaced.{none as no_value, value}
use Rattle.job_text_row.specs.Spaced.ValueText.{of-count}

-- ---- one real

-- a NaN is printed as some NaN's pattern
pub nan-printed : {t : List ℕ} → (r : RealText nan t) → nan_bits binary64 r.bits ≡ true
nan-printed r = pattern-of-nan binary64 r.bits r.value

number : (b : ℕ) → nan_bits binary64 b ≡ false → T (not (is_nan (of_bits binary64 b)))
number b n = subst (λ (t : Bool). T (not t)) (sym n ∙ nan_bits_is binary64 b) tt

-- any other real as the one pattern that it has
pub real-only : (b : ℕ) {t : List ℕ} → b < 2 ^ 64 → nan_bits binary64 b ≡ false → RealText (of_bits binary64 b) t
    → t ≡ hexadecimal16 b
real-only b h n r =
    r.is
    ∙ ap hexadecimal16
    (sym (to_bits-of_bits binary64 r.bits r.fits (subst (λ (x : Float). T (not (is_nan x))) (sym r.value) (number b n)))
    ∙ ap (to_bits binary64) r.value
    ∙ to_bits-of_bits binary64 b h (number b n))

pub real-text : (b : ℕ) → b < 2 ^ 64 → RealText (of_bits binary64 b) (hexadecimal16 b)
real-text b h = record { bits = b; fits = h; value = refl; is = refl }

-- ---- an accepted job

-- bit patterns of which none is a NaN's
pub data Numbers : List ℕ → Type 0 where
  none : Numbers []
  next : {b : ℕ} {bs : List ℕ} → b < 2 ^ 64 → nan_bits binary64 b ≡ false → Numbers bs → Numbers (b ∷ bs)

-- one pattern a line
unfoldable pub lines_of : List ℕ → List ℕ
lines_of [] = []
lines_of (b ∷ bs) = hexadecimal16 b ++ (newline ∷ lines_of bs)

lines-only : {bs u : List ℕ} → Numbers bs → Lines (map (of_bits binary64) bs) u → u ≡ lines_of bs
unfolding lines_of
lines-only none no_line = refl
lines-only (next {b = b} h n p) (line r l) = rw (real-only b h n r, lines-only p l)

lines-text : {bs : List ℕ} → Numbers bs → Lines (map (of_bits binary64) bs) (lines_of bs)
unfolding lines_of
lines-text none = no_line
lines-text (next h n p) = line (real-text _ h) (lines-text p)

-- values that are no NaN have one text
pub done-is : {bs t : List ℕ} → Numbers bs
    → DoneText (map (of_bits binary64) bs) t ↔ (t ≡ done_word ++ (decimal (length bs) ++ (newline ∷ lines_of bs)))
done-is {bs} p = (only, λ e. rw (e, ← length-map bs (of_bits binary64)) (done (lines-text p)))
  where
    only : {t : List ℕ} → DoneText (map (of_bits binary64) bs) t
        → t ≡ done_word ++ (decimal (length bs) ++ (newline ∷ lines_of bs))
    only (done l) = rw (length-map bs (of_bits binary64), lines-only p l)

-- ---- examples

-- 01's job: `done 2`, `3fe5555555555556`, `3fd5555555555555`
pub example-done : {t : List ℕ}
    → DoneText (of_bits binary64 0x3FE5555555555556 ∷ of_bits binary64 0x3FD5555555555555 ∷ []) t
    → t ≡ 100 ∷ 111 ∷ 110 ∷ 101 ∷ 32 ∷ 50 ∷ 10
    ∷ 51 ∷ 102 ∷ 101 ∷ 53 ∷ 53 ∷ 53 ∷ 53 ∷ 53 ∷ 53 ∷ 53 ∷ 53 ∷ 53 ∷ 53 ∷ 53 ∷ 53 ∷ 54 ∷ 10
    ∷ 51 ∷ 102 ∷ 100 ∷ 53 ∷ 53 ∷ 53 ∷ 53 ∷ 53 ∷ 53 ∷ 53 ∷ 53 ∷ 53 ∷ 53 ∷ 53 ∷ 53 ∷ 53 ∷ 10
    ∷ []
unfolding decimal digits digit places places_within hexadecimal16 lines_of nan_bits
example-done d =
    let numbers : Numbers (0x3FE5555555555556 ∷ 0x3FD5555555555555 ∷ []) =
    next {b = 0x3FE5555555555556} (omega arith) refl (next {b = 0x3FD5555555555555} (omega arith) refl none)
    in
    (done-is numbers).0 d

-- row 12: `refused 12 0`
pub example-refused : {t : List ℕ} → RefusedText (NoNodes 0) t → t ≡ 114 ∷ 101 ∷ 102 ∷ 117 ∷ 115 ∷ 101 ∷ 100 ∷ 32 ∷ 49 ∷ 50 ∷ 32 ∷ 48 ∷ 10 ∷ []
unfolding decimal digits digit places places_within
example-refused (refused (value of-count (value of-count no_value))) = refl
