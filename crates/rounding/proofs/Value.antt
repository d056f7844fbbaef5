-- What a value that fits a format is as a number. It is m * 2 ^ e with bounds on m and e (`Parts`); counted from the
-- format's smallest value, its exponent is `place`. One number has one way to be written (`unique`, `one_way`), so two
-- values are equal where they are the same number with the same sign. Assumes nothing.
use mathlib.Core.Path.{◌≡◌, refl, sym, ap, ◌∙◌, subst}
use mathlib.Core.Bool.{Bool, ◌&&◌}
use Prim.Native.Nat.{ℕ, zero, suc, ◌+◌, ◌-◌, ◌*◌, ◌%◌, ◌^◌, ◌≤◌, ◌<◌}
use native.Mathlib.Nat.{zero-lt-suc, le_of_eq, le_of_suc-le-suc, lt_irrefl, lt_of_lt_of_le, lt_of_le_of_lt}
use native.Mathlib.Nat.{lt_of_not-le, not-le_of_lt, mul-pos, zero-mul, mul-one, one-mul, mul_assoc, mul_comm}
use native.Mathlib.Nat.{mul_left_comm, mul_right_comm, mul-lt-mul_of_pos_right, lt_of_mul-lt-mul_right}
use native.Mathlib.Nat.{eq_of_mul-eq-mul_right, pow-suc, pow-succ'}
use native.Mathlib.Omega.{arith}
use lib.IntN.{ℤ, pos, negsuc}
use lib.Dec.{T, ltb, leb, eqb, ltb→lt, leb→le, eqb→eq}
use lib.Pow.{pow-add, pow_pos, pow-lt}
use lib.Ieee.{Float, nan, inf, fin, Format, prec, emax, low, up, down, fits}
use lib.Ieee.Digits.{back}
use lib.Ieee.Fits.{down_pos, and_l, and_r}
use lib.Ieee.Exact.{HasValue}
use lib.Ieee.Scale.{overflow}

-- ---- the bounds

-- The digits m and the exponent e of a value that fits: m has at most `prec` binary digits, 2 ^ e is a multiple of the
-- format's smallest value 2 ^ -low, and m * 2 ^ e is below 2 ^ (emax + 1), from where on there are infinities only.
-- A zero meets these bounds too.
pub record Parts (f : Format) (m : ℕ) (e : ℤ) : Type 0 where
  pub digits : m < 2 ^ prec f
  pub fine : down e ≤ 2 ^ low f
  pub below : m * up e < 2 ^ suc (emax f) * down e

twice-not-one : (p : ℕ) → 0 < p → 2 * p ≡ 1 → ⊥
twice-not-one p h e = omega arith

power-one : (e : ℤ) → up e * down e ≡ 1 → e ≡ pos 0
power-one (pos zero) h = refl
power-one (pos (suc k)) h =
    absurd (twice-not-one (2 ^ k) (pow_pos k) (sym (pow-succ' 2 k) ∙ sym (mul-one (2 ^ suc k)) ∙ h))
power-one (negsuc k) h =
    absurd (twice-not-one (2 ^ k) (pow_pos k) (sym (pow-succ' 2 k) ∙ sym (one-mul (2 ^ suc k)) ∙ h))

-- a zero that fits is written with the exponent 0
pub zero_exponent : (f : Format) (s : Bool) (e : ℤ) → T (fits f (fin s zero e)) → e ≡ pos 0
unfolding fits
zero_exponent f s e t = power-one e (eqb→eq (up e * down e) 1 t)

-- any other has odd digits, and the bounds
pub odd-and-parts : (f : Format) (s : Bool) (m : ℕ) (e : ℤ)
    → T (fits f (fin s (suc m) e))
    → (suc m % 2 ≡ 1) × Parts f (suc m) e
unfolding fits
odd-and-parts f s m e t =
    let a : Bool = eqb (suc m % 2) 1 in
    let b : Bool = ltb (suc m) (2 ^ prec f) in
    let c : Bool = leb (down e) (2 ^ low f) in
    let d : Bool = ltb (suc m * up e) (2 ^ suc (emax f) * down e) in
    let abc : T (a && b && c) = and_l (a && b && c) d t in
    let ab : T (a && b) = and_l (a && b) c abc in (
      eqb→eq (suc m % 2) 1 (and_l a b ab),
      record {
        digits = ltb→lt (suc m) (2 ^ prec f) (and_r a b ab);
        fine = leb→le (down e) (2 ^ low f) (and_r (a && b) c abc);
        below = ltb→lt (suc m * up e) (2 ^ suc (emax f) * down e) (and_r (a && b && c) d t);
      },
    )

pub parts : (f : Format) (s : Bool) (m : ℕ) (e : ℤ) → T (fits f (fin s m e)) → Parts f m e
parts f s zero e t = subst (λ (x : ℤ). Parts f zero x) (sym (zero_exponent f s e t)) record {
  digits = pow_pos (prec f);
  fine = pow_pos (low f);
  below = mul-pos (pow_pos (suc (emax f))) (zero-lt-suc 0);
}
parts f s (suc m) e t = (odd-and-parts f s m e t).1

-- ---- counted from the format's smallest value

-- The exponent e counted from the format's smallest value, with l for the format's `low`: 2 ^ e is 2 ^ place l e times
-- 2 ^ -l. This is so where 2 ^ e is a multiple of 2 ^ -l (`place_is`).
unfoldable pub place : ℕ → ℤ → ℕ
place l (pos k) = k + l
place l (negsuc k) = l - suc k

exponent-le : (i j : ℕ) → 2 ^ i ≤ 2 ^ j → i ≤ j
exponent-le i j h = le_of_suc-le-suc (lt_of_not-le (λ (g : suc j ≤ i). not-le_of_lt (pow-lt g) h))

pub place_is : (l : ℕ) (e : ℤ) → down e ≤ 2 ^ l → up e * 2 ^ l ≡ 2 ^ place l e * down e
unfolding place
place_is l (pos k) h = sym (pow-add 2 k l) ∙ sym (mul-one (2 ^ (k + l)))
place_is l (negsuc k) h =
    one-mul (2 ^ l)
    ∙ ap (λ (x : ℕ). 2 ^ x) (sym (back l (suc k) (exponent-le (suc k) l h)))
    ∙ pow-add 2 (l - suc k) (suc k)

-- two exponents at one place are equal
place-injective : (l : ℕ) (e g : ℤ) → down e ≤ 2 ^ l → down g ≤ 2 ^ l → place l e ≡ place l g → e ≡ g
unfolding place
place-injective l (pos a) (pos b) h k p = ap pos (same l a b p)
  where
    same : (l a b : ℕ) → a + l ≡ b + l → a ≡ b
    same l a b p = omega arith
place-injective l (pos a) (negsuc b) h k p = absurd (apart l a b (exponent-le (suc b) l k) p)
  where
    apart : (l a b : ℕ) → suc b ≤ l → a + l ≡ l - suc b → ⊥
    apart l a b k p = omega arith
place-injective l (negsuc a) (pos b) h k p = absurd (apart l a b (exponent-le (suc a) l h) p)
  where
    apart : (l a b : ℕ) → suc a ≤ l → l - suc a ≡ b + l → ⊥
    apart l a b h p = omega arith
place-injective l (negsuc a) (negsuc b) h k p =
    ap negsuc (same l a b (exponent-le (suc a) l h) (exponent-le (suc b) l k) p)
  where
    same : (l a b : ℕ) → suc a ≤ l → suc b ≤ l → l - suc a ≡ l - suc b → a ≡ b
    same l a b h k p = omega arith

-- the number m * 2 ^ e is m * 2 ^ place of the smallest values
pub place-value : (f : Format) (m : ℕ) (e : ℤ) → Parts f m e → m * up e * 2 ^ low f ≡ m * 2 ^ place (low f) e * down e
place-value f m e p =
    mul_assoc m (up e) (2 ^ low f)
    ∙ ap (λ (x : ℕ). m * x) (place_is (low f) e p.fine)
    ∙ sym (mul_assoc m (2 ^ place (low f) e) (down e))

-- and that many are too few to overflow
pub fine-place : (f : Format) (m : ℕ) (e : ℤ) → Parts f m e → m * 2 ^ place (low f) e < overflow f
fine-place f m e p =
    let l = low f in
    let top = 2 ^ suc (emax f) in
    let bound : m * up e * 2 ^ l < top * down e * 2 ^ l = mul-lt-mul_of_pos_right p.below (pow_pos l) in
    let scaled : top * down e * 2 ^ l ≡ overflow f * down e =
    mul_right_comm top (down e) (2 ^ l)
    ∙ ap (λ (x : ℕ). x * down e) (mul_comm top (2 ^ l) ∙ sym (pow-add 2 l (suc (emax f)))) in
    lt_of_mul-lt-mul_right (down e)
    (lt_of_le_of_lt (le_of_eq (sym (place-value f m e p))) (lt_of_lt_of_le bound (le_of_eq scaled)))

-- ---- one number, one way to write it

not-odd-and-even : (m t : ℕ) → m % 2 ≡ 1 → m ≡ 2 * t → ⊥
not-odd-and-even m t o h = omega arith

-- an odd number times a power of two determines both
pub odd-times-power : (m n a b : ℕ) → m % 2 ≡ 1 → n % 2 ≡ 1 → m * 2 ^ a ≡ n * 2 ^ b → (m ≡ n) × (a ≡ b)
odd-times-power m n zero zero o p h = (sym (mul-one m) ∙ h ∙ mul-one n, refl)
odd-times-power m n zero (suc b) o p h =
    absurd (not-odd-and-even m (n * 2 ^ b) o
    (sym (mul-one m) ∙ h ∙ ap (λ (x : ℕ). n * x) (pow-succ' 2 b) ∙ mul_left_comm n 2 (2 ^ b)))
odd-times-power m n (suc a) zero o p h =
    absurd (not-odd-and-even n (m * 2 ^ a) p
    (sym (mul-one n) ∙ sym h ∙ ap (λ (x : ℕ). m * x) (pow-succ' 2 a) ∙ mul_left_comm m 2 (2 ^ a)))
odd-times-power m n (suc a) (suc b) o p h =
    let halved : m * 2 ^ a * 2 ≡ n * 2 ^ b * 2 =
    mul_assoc m (2 ^ a) 2
    ∙ ap (λ (x : ℕ). m * x) (sym (pow-suc 2 a))
    ∙ h
    ∙ ap (λ (x : ℕ). n * x) (pow-suc 2 b)
    ∙ sym (mul_assoc n (2 ^ b) 2) in
    let r = odd-times-power m n a b o p (eq_of_mul-eq-mul_right 2 (zero-lt-suc 1) (m * 2 ^ a) (n * 2 ^ b) halved) in
    (r.0, ap suc r.1)

positive-not-zero : (n u v : ℕ) → 0 < u → suc n * u ≡ 0 * v → ⊥
positive-not-zero n u v U h = lt_irrefl 0 (subst (λ (x : ℕ). 0 < x) (h ∙ zero-mul v) (mul-pos (zero-lt-suc n) U))

-- equal where they are as many of the smallest values, with the same sign
same_units : (f : Format) (s t : Bool) (m : ℕ) (e : ℤ) (n : ℕ) (g : ℤ)
    → T (fits f (fin s m e))
    → T (fits f (fin t n g))
    → s ≡ t
    → m * 2 ^ place (low f) e ≡ n * 2 ^ place (low f) g
    → fin s m e ≡ fin t n g
same_units f s t zero e zero g p q b h = λ i. fin (b i) zero ((zero_exponent f s e p ∙ sym (zero_exponent f t g q)) i)
same_units f s t zero e (suc n) g p q b h =
    absurd (positive-not-zero n (2 ^ place (low f) g) (2 ^ place (low f) e) (pow_pos (place (low f) g)) (sym h))
same_units f s t (suc m) e zero g p q b h =
    absurd (positive-not-zero m (2 ^ place (low f) e) (2 ^ place (low f) g) (pow_pos (place (low f) e)) h)
same_units f s t (suc m) e (suc n) g p q b h =
    let l = low f in
    let a = odd-and-parts f s m e p in
    let c = odd-and-parts f t n g q in
    let r = odd-times-power (suc m) (suc n) (place l e) (place l g) a.0 c.0 h in
    let x : e ≡ g = place-injective l e g a.1.fine c.1.fine r.1 in
    λ i. fin (b i) (r.0 i) (x i)

-- a value that is a / c in size is a * 2 ^ low / c of the smallest values
units-of-value : (f : Format) (m : ℕ) (e : ℤ) (a c : ℕ)
    → Parts f m e
    → m * up e * c ≡ a * down e
    → m * 2 ^ place (low f) e * c ≡ a * 2 ^ low f
units-of-value f m e a c p v =
    let l = 2 ^ low f in
    let k = 2 ^ place (low f) e in
    eq_of_mul-eq-mul_right (down e) (down_pos e) (m * k * c) (a * l)
    (mul_right_comm (m * k) c (down e)
    ∙ ap (λ (x : ℕ). x * c) (sym (place-value f m e p))
    ∙ mul_right_comm (m * up e) l c
    ∙ ap (λ (x : ℕ). x * l) v
    ∙ mul_right_comm a (down e) l)

-- two values of a format that are the same number with the same sign are equal
pub unique : (f : Format) (x y : Float) (s : Bool) (a c : ℕ)
    → 0 < c
    → T (fits f x)
    → T (fits f y)
    → HasValue x s a c
    → HasValue y s a c
    → x ≡ y
unique f nan y s a c C p q v w = absurd v
unique f (inf t) y s a c C p q v w = absurd v
unique f (fin t m e) nan s a c C p q v w = absurd w
unique f (fin t m e) (inf u) s a c C p q v w = absurd w
unique f (fin t m e) (fin u n g) s a c C p q v w =
    same_units f t u m e n g p q (v.0 ∙ sym w.0)
    (eq_of_mul-eq-mul_right c C (m * 2 ^ place (low f) e) (n * 2 ^ place (low f) g)
    (units-of-value f m e a c (parts f t m e p) v.1 ∙ sym (units-of-value f n g a c (parts f u n g q) w.1)))

-- the same for two values whose fractions are equal, multiplied crosswise
pub one_way : (f : Format) (s t : Bool) (m : ℕ) (e : ℤ) (n : ℕ) (g : ℤ)
    → T (fits f (fin s m e))
    → T (fits f (fin t n g))
    → s ≡ t
    → m * up e * down g ≡ n * up g * down e
    → fin s m e ≡ fin t n g
one_way f s t m e n g p q b h =
    unique f (fin s m e) (fin t n g) t (n * up g) (down g) (down_pos g) p q (b, h) (refl, refl)
