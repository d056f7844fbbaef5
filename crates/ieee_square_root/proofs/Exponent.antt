-- The unbiased exponent, a signed number: it fits its type, and its half toward minus infinity. Assumes nothing.
-- A signed local holds bits; what the machine reads back from them, `to_z w (of_z w e)`, is e again (`read_back`).
use mathlib.Core.Path.{◌≡◌, refl, sym, ap, ◌∙◌, subst}
use mathlib.Core.Bool.{Bool, true, false, not, cond}
use Prim.Native.Nat.{ℕ, zero, suc, ◌+◌, ◌-◌, ◌*◌, ◌/◌, ◌%◌, ◌^◌, ◌≤◌, ◌<◌}
use native.Mathlib.Nat.{le_trans, le_of_eq, lt_of_le_of_lt, lt_of_lt_of_le, lt_of_not-le, not-le_of_lt, mod-eq_of_lt, mul_assoc, mul-le-mul_right, mul-lt-mul_of_pos_right}
use native.Mathlib.Omega.{arith}
use lib.Count.{count_leading_zeros, leading_top}
use lib.Dec.{T, leb, leb→le, nleb→lt, lit≤}
use lib.Ieee.{binary64}
use lib.IntN.{ℤ, pos, negsuc, nat_abs, pos-ne-negsuc, sub_ℕ, ◌+ℤ◌, ◌-ℤ◌}
use lib.Pow.{pow_pos, pow_mono, pow-add}
use lib.Signed.{mag_shr, shr_z}
use mir.Syntax.{w64}
use mir.Val.{SFits, of_z, to_z}
use mir.ValLaws.{to_z-of_z}
use borrow.Author.Tests.{lt-ltb, le-ltb}
use Rattle.ieee_square_root.specs.Steps.{half_down, magnitude, Normalized}

-- a number that the machine read back from e's bits, and e
pub read_back : {e : ℤ} → SFits w64 e → to_z w64 (of_z w64 e) ≡ e
read_back {e} h = to_z-of_z w64 e h

pub small : {n : ℕ} → n ≤ 4096 → n < 2 ^ 63
small h = omega arith

-- ---- differences of counts

pub difference : (a b : ℕ) → b ≤ a → sub_ℕ a b ≡ pos (a - b)
difference a b h = ap (λ (t : Bool). cond t (negsuc (b - suc a)) (pos (a - b))) (le-ltb a b h)

pub difference_below : (a b : ℕ) → a < b → sub_ℕ a b ≡ negsuc (b - suc a)
difference_below a b h = ap (λ (t : Bool). cond t (negsuc (b - suc a)) (pos (a - b))) (lt-ltb a b h)

-- ---- half of an exponent: a shift of a signed number rounds toward minus infinity

pub shifted_half : {e : ℤ} → SFits w64 e → to_z w64 (of_z w64 (shr_z (to_z w64 (of_z w64 e)) 2)) ≡ half_down e
shifted_half {e} h =
    ap (λ (z : ℤ). to_z w64 (of_z w64 (shr_z z 2))) (read_back h) ∙ read_back record { sfits = lt_of_le_of_lt (mag_shr e 2) h.sfits } ∙ half e
  where
    half : (e : ℤ) → shr_z e 2 ≡ half_down e
    half (pos a) = refl
    half (negsuc a) = refl

-- ---- the exponent of a value, counted from the smallest

-- a number that an offset brings to a count fits, where both are small
pub offset-fits : (z : ℤ) (offset p : ℕ) → z +ℤ pos offset ≡ pos p → offset ≤ 4096 → p ≤ 4096 → SFits w64 z
offset-fits (pos a) offset p h o m = record { sfits = small (le_trans (bound (ap nat_abs h)) m) }
  where
    bound : a + offset ≡ p → a ≤ p
    bound h = omega arith
offset-fits (negsuc a) offset p h o m = by (leb (suc a) offset) (leb→le (suc a) offset) (nleb→lt (suc a) offset)
  where
    by : (b : Bool) → (T b → suc a ≤ offset) → (T (not b) → offset < suc a) → SFits w64 (negsuc a)
    by true y n = record { sfits = small (le_trans (omega (arith, y tt)) o) }
    by false y n = absurd (pos-ne-negsuc p (suc a - suc offset) (sym h ∙ difference_below offset (suc a) (n tt)))

pub count-read : {n : ℕ} → n ≤ 4096 → to_z w64 n ≡ pos n
count-read {n} h = to_z-of_z w64 (pos n) record { sfits = small h }

-- with a hidden digit: the field less 1023
field-from-least : (f : ℕ) → sub_ℕ f 1023 +ℤ pos 1074 ≡ pos (f + 51)
field-from-least f = by (leb 1023 f) (leb→le 1023 f) (nleb→lt 1023 f)
  where
    by : (b : Bool) → (T b → 1023 ≤ f) → (T (not b) → f < 1023) → sub_ℕ f 1023 +ℤ pos 1074 ≡ pos (f + 51)
    by true y n = ap (λ (z : ℤ). z +ℤ pos 1074) (difference f 1023 (y tt)) ∙ ap pos (upper (y tt))
      where
        upper : 1023 ≤ f → f - 1023 + 1074 ≡ f + 51
        upper h = omega arith
    by false y n =
        ap (λ (z : ℤ). z +ℤ pos 1074) (difference_below f 1023 (n tt))
        ∙ difference 1074 (suc (1023 - suc f)) (within f)
        ∙ ap pos (lower (n tt))
      where
        within : (f : ℕ) → suc (1023 - suc f) ≤ 1074
        within f = omega arith

        lower : f < 1023 → 1074 - suc (1023 - suc f) ≡ f + 51
        lower h = omega arith

pub normal-exponent : (f : ℕ) → f ≤ 2046 → to_z w64 f -ℤ pos 1023 +ℤ pos 1074 ≡ pos (f + 51)
normal-exponent f h = ap (λ (z : ℤ). z -ℤ pos 1023 +ℤ pos 1074) (count-read (le_trans h (lit≤ tt))) ∙ field-from-least f

pub normal-exponent-fits : (f : ℕ) → f ≤ 2046 → SFits w64 (to_z w64 f -ℤ pos 1023)
normal-exponent-fits f h =
    subst (λ (z : ℤ). SFits w64 (z -ℤ pos 1023)) (sym (count-read (le_trans h (lit≤ tt))))
    (by (leb 1023 f) (leb→le 1023 f) (nleb→lt 1023 f))
  where
    by : (b : Bool) → (T b → 1023 ≤ f) → (T (not b) → f < 1023) → SFits w64 (sub_ℕ f 1023)
    by true y n = subst (λ (z : ℤ). SFits w64 z) (sym (difference f 1023 (y tt))) record { sfits = small (omega arith) }
    by false y n = subst (λ (z : ℤ). SFits w64 z) (sym (difference_below f 1023 (n tt))) record { sfits = small (omega arith) }

-- without one, shifted up by s: -1022 - s
pub shifted-exponent : (s : ℕ) → 0 < s → s ≤ 52 → negsuc 1021 -ℤ to_z w64 s +ℤ pos 1074 ≡ pos (52 - s)
shifted-exponent s p h = ap (λ (z : ℤ). negsuc 1021 -ℤ z +ℤ pos 1074) (count-read (le_trans h (lit≤ tt))) ∙ by s p h
  where
    by : (s : ℕ) → 0 < s → s ≤ 52 → negsuc 1021 -ℤ pos s +ℤ pos 1074 ≡ pos (52 - s)
    by zero p h = absurd (none p)
      where
        none : 0 < 0 → ⊥
        none h = omega arith
    by (suc s) p h = difference 1074 (suc (suc (1021 + s))) (within s h) ∙ ap pos (left s)
      where
        within : (s : ℕ) → suc s ≤ 52 → suc (suc (1021 + s)) ≤ 1074
        within s h = omega arith

        left : (s : ℕ) → 1074 - suc (suc (1021 + s)) ≡ 52 - suc s
        left s = omega arith

pub shifted-exponent-fits : (s : ℕ) → 0 < s → s ≤ 52 → SFits w64 (negsuc 1021 -ℤ to_z w64 s)
shifted-exponent-fits s p h = subst (λ (z : ℤ). SFits w64 (negsuc 1021 -ℤ z)) (sym (count-read (le_trans h (lit≤ tt)))) (by s p h)
  where
    by : (s : ℕ) → 0 < s → s ≤ 52 → SFits w64 (negsuc 1021 -ℤ pos s)
    by zero p h = absurd (none p)
      where
        none : 0 < 0 → ⊥
        none h = omega arith
    by (suc s) p h = record { sfits = small (omega arith) }

-- ---- the significand

pub normal-value : (x t : ℕ) → (x ≡ 0 → ⊥) → magnitude binary64 x t * 2 ^ 52 ≡ (2 ^ 52 + t) * 2 ^ (x + 51)
normal-value zero t h = absurd (h refl)
normal-value (suc x) t h =
    mul_assoc (2 ^ 52 + t) (2 ^ x) (2 ^ 52)
    ∙ ap (λ (y : ℕ). (2 ^ 52 + t) * y) (sym (pow-add 2 x 52) ∙ ap (λ (y : ℕ). 2 ^ y) (next x))
  where
    next : (x : ℕ) → x + 52 ≡ suc x + 51
    next x = omega arith

-- the shift that brings the leading digit of a t below 2 ^ 52 to place 52
pub record Shifted (t s : ℕ) : Type 0 where
  pub positive : 0 < s
  pub most : s ≤ 52
  pub lower : 2 ^ 52 ≤ t * 2 ^ s
  pub upper : t * 2 ^ s < 2 ^ 53

pow-cancel : (i j : ℕ) → 2 ^ i < 2 ^ j → i < j
pow-cancel i j h = lt_of_not-le (λ (g : j ≤ i). not-le_of_lt h (pow_mono g))

pub shifted : (t : ℕ) → 0 < t → t < 2 ^ 52 → (11 ≤ count_leading_zeros 64 t) × Shifted t (count_leading_zeros 64 t - 11)
shifted t p h =
    let l = leading_top 64 t p (lt_of_lt_of_le h (lit≤ tt)) in
    at (count_leading_zeros 64 t) l.0 l.1 l.2 l.3
  where
    at : (z j : ℕ) → z + suc j ≡ 64 → 2 ^ j ≤ t → t < 2 ^ suc j → (11 ≤ z) × Shifted t (z - 11)
    at z j e low high =
        let b : j < 52 = pow-cancel j 52 (lt_of_le_of_lt low h) in (
          omega arith,
          record {
            positive = omega arith;
            most = omega arith;
            lower = le_trans (le_of_eq (ap (λ (x : ℕ). 2 ^ x) (sum z j e b) ∙ pow-add 2 j (z - 11))) (mul-le-mul_right (2 ^ (z - 11)) low);
            upper = lt_of_lt_of_le (mul-lt-mul_of_pos_right high (pow_pos (z - 11))) (le_of_eq (sym (pow-add 2 (suc j) (z - 11)) ∙ ap (λ (x : ℕ). 2 ^ x) (next-sum z j e b)));
          },
        )
      where
        sum : (z j : ℕ) → z + suc j ≡ 64 → j < 52 → 52 ≡ j + (z - 11)
        sum z j e b = omega arith

        next-sum : (z j : ℕ) → z + suc j ≡ 64 → j < 52 → suc j + (z - 11) ≡ 53
        next-sum z j e b = omega arith

-- ---- a value as significand and exponent, as `Normalized` has it

-- without a hidden digit, from the machine's shift
pub subnormal-is : (bits s : ℕ) (e : ℤ)
    → bits / 4503599627370496 ≡ 0
    → Shifted (bits % 4503599627370496) s
    → e ≡ negsuc 1021 -ℤ to_z w64 s
    → Normalized bits (bits % 4503599627370496 * 2 ^ s % 18446744073709551616) e
subnormal-is bits s e z h p =
    let t = bits % 4503599627370496 in
    let whole : t * 2 ^ s % 18446744073709551616 ≡ t * 2 ^ s = mod-eq_of_lt (lt_of_lt_of_le h.upper (lit≤ tt)) in
    subst (λ (x : ℕ). Normalized bits x e) (sym whole) record {
      lower = h.lower;
      upper = h.upper;
      place = 52 - s;
      at = ap (λ (y : ℤ). y +ℤ pos 1074) p ∙ shifted-exponent s h.positive h.most;
      most = omega arith;
      value =
          ap (λ (x : ℕ). magnitude binary64 x t * 2 ^ 52) z
          ∙ ap (λ (x : ℕ). t * 2 ^ x) (sym (back h.most))
          ∙ ap (λ (x : ℕ). t * x) (pow-add 2 s (52 - s))
          ∙ sym (mul_assoc t (2 ^ s) (2 ^ (52 - s)));
    }
  where
    back : s ≤ 52 → s + (52 - s) ≡ 52
    back h = omega arith

-- with a hidden digit
pub normal-is : (bits : ℕ) (e : ℤ)
    → bits < 0x7FF0_0000_0000_0000
    → (bits / 4503599627370496 ≡ 0 → ⊥)
    → e ≡ to_z w64 (bits / 4503599627370496) -ℤ pos 1023
    → Normalized bits (4503599627370496 + bits % 4503599627370496) e
normal-is bits e h nz p =
    let x = bits / 4503599627370496 in
    let f : x ≤ 2046 = omega arith in
    record {
      lower = omega arith;
      upper = omega arith;
      place = x + 51;
      at = ap (λ (y : ℤ). y +ℤ pos 1074) p ∙ normal-exponent x f;
      most = omega arith;
      value = normal-value x (bits % 4503599627370496) nz;
    }
