-- Equality up to the sign of a zero is an equivalence, and negation, products, sums and differences respect it, at any
-- values: NaNs, infinities and results that overflow too. The sign of an argument that is a zero shows at most in the
-- sign of a result that is a zero. (A quotient does not respect it: 1 / +0 and 1 / -0 differ.) Assumes nothing.
use mathlib.Core.Path.{◌≡◌, refl, sym, ap, ◌∙◌}
use mathlib.Core.Bool.{Bool, true, false, not, ◌&&◌, cond}
use Prim.Native.Nat.{ℕ, zero, suc, ◌-◌, ◌*◌, ◌≤◌, ◌<◌}
use native.Mathlib.Nat.{mul-pos, zero-mul, mul-zero, zero-add, add-zero, sub-zero, zero-sub}
use native.Mathlib.Nat.{mul_assoc, mul_comm, mul_left_comm}
use native.Mathlib.Omega.{arith}
use lib.IntN.{ℤ, pos}
use lib.Dec.{T, ltb, ltb→lt, nltb→le}
use lib.Ieee.{Float, nan, inf, fin, Format, unlike, up, down, round, neg, sum, add, sub, mul}
use lib.Ieee.Fits.{down_pos}
use lib.Ieee.Scale.{round_same}
use Rattle.rounding.specs.SignOfZero.{+0, plus_zero, Same}
use Rattle.rounding.proofs.ExactRounding.{zero-numerator, round-zero, rounded}

-- ---- an equivalence

pub same-equal : {x y : Float} → x ≡ y → Same x y
same-equal p = record { path = ap plus_zero p }

pub same_refl : (x : Float) → Same x x
same_refl x = same-equal refl

pub same-sym : {x y : Float} → Same x y → Same y x
same-sym p = record { path = sym p.path }

pub same-trans : {x y z : Float} → Same x y → Same y z → Same x z
same-trans p q = record { path = p.path ∙ q.path }

-- An operation respects the relation if it may be handed `plus_zero` of either argument.
same_operation : (op : Float → Float → Float)
    → ((x y : Float) → Same (op (plus_zero x) y) (op x y))
    → ((x y : Float) → Same (op x (plus_zero y)) (op x y))
    → {x x' y y' : Float}
    → Same x x'
    → Same y y'
    → Same (op x y) (op x' y')
same_operation op left right {x} {x'} {y} {y'} p q =
    same-trans (same-sym (left x y))
    (same-trans (same-equal (ap (λ (z : Float). op z y) p.path))
    (same-trans (left x' y)
    (same-trans (same-sym (right x' y))
    (same-trans (same-equal (ap (λ (z : Float). op x' z) q.path)) (right x' y')))))

-- ---- zeros that are made by rounding

-- all zeros are the same
zeros-same : (s t : Bool) (e d : ℤ) → Same (fin s 0 e) (fin t 0 d)
unfolding plus_zero
zeros-same s t e d = record { path = refl }

round-zero-same : (f : Format) (s : Bool) (a c : ℕ) → 0 < c → a ≡ 0 → Same (round f s a c) +0
round-zero-same f s a c C z =
    same-trans (same-equal (ap (λ (x : ℕ). round f s x c) z ∙ round-zero f s c C)) (zeros-same s false (pos 0) (pos 0))

-- ---- negation

neg-plus_zero : (x : Float) → Same (neg (plus_zero x)) (neg x)
unfolding plus_zero neg
neg-plus_zero nan = same_refl nan
neg-plus_zero (inf s) = same_refl (inf (not s))
neg-plus_zero (fin s zero e) = zeros-same true (not s) (pos 0) e
neg-plus_zero (fin s (suc m) e) = same_refl (fin (not s) (suc m) e)

pub neg_same : {x y : Float} → Same x y → Same (neg x) (neg y)
neg_same {x} {y} p =
    same-trans (same-sym (neg-plus_zero x)) (same-trans (same-equal (ap neg p.path)) (neg-plus_zero y))

-- ---- product

-- a zero times a number is a zero
pub zero-times-number : (f : Format) (s : Bool) (e : ℤ) (t : Bool) (n : ℕ) (d : ℤ)
    → Same (mul f (fin s 0 e) (fin t n d)) +0
unfolding mul
zero-times-number f s e t n d =
    round-zero-same f (unlike s t) (0 * up e * (n * up d)) (down e * down d) (mul-pos (down_pos e) (down_pos d))
    (ap (λ (x : ℕ). x * (n * up d)) (zero-mul (up e)) ∙ zero-mul (n * up d))

pub number-times-zero : (f : Format) (s : Bool) (m : ℕ) (e : ℤ) (t : Bool) (d : ℤ)
    → Same (mul f (fin s m e) (fin t 0 d)) +0
unfolding mul
number-times-zero f s m e t d =
    round-zero-same f (unlike s t) (m * up e * (0 * up d)) (down e * down d) (mul-pos (down_pos e) (down_pos d))
    (ap (λ (x : ℕ). m * up e * x) (zero-mul (up d)) ∙ mul-zero (m * up e))

mul-plus_zero-left : (f : Format) (x y : Float) → Same (mul f (plus_zero x) y) (mul f x y)
unfolding plus_zero mul
mul-plus_zero-left f nan y = same_refl nan
mul-plus_zero-left f (inf s) y = same_refl (mul f (inf s) y)
mul-plus_zero-left f (fin s zero e) nan = same_refl nan
mul-plus_zero-left f (fin s zero e) (inf t) = same_refl nan
mul-plus_zero-left f (fin s zero e) (fin t n d) =
    same-trans (zero-times-number f false (pos 0) t n d) (same-sym (zero-times-number f s e t n d))
mul-plus_zero-left f (fin s (suc m) e) y = same_refl (mul f (fin s (suc m) e) y)

mul-plus_zero-right : (f : Format) (x y : Float) → Same (mul f x (plus_zero y)) (mul f x y)
unfolding plus_zero mul
mul-plus_zero-right f nan y = same_refl nan
mul-plus_zero-right f (inf s) nan = same_refl nan
mul-plus_zero-right f (inf s) (inf t) = same_refl (inf (unlike s t))
mul-plus_zero-right f (inf s) (fin t zero d) = same_refl nan
mul-plus_zero-right f (inf s) (fin t (suc n) d) = same_refl (mul f (inf s) (fin t (suc n) d))
mul-plus_zero-right f (fin s m e) nan = same_refl nan
mul-plus_zero-right f (fin s m e) (inf t) = same_refl (mul f (fin s m e) (inf t))
mul-plus_zero-right f (fin s m e) (fin t zero d) =
    same-trans (number-times-zero f s m e false (pos 0)) (same-sym (number-times-zero f s m e t d))
mul-plus_zero-right f (fin s m e) (fin t (suc n) d) = same_refl (mul f (fin s m e) (fin t (suc n) d))

pub mul-same : (f : Format) {x x' y y' : Float} → Same x x' → Same y y' → Same (mul f x y) (mul f x' y')
mul-same f p q = same_operation (mul f) (mul-plus_zero-left f) (mul-plus_zero-right f) p q

-- ---- sum

at-most-zero : (b : ℕ) → b ≤ 0 → b ≡ 0
at-most-zero b h = omega arith

-- 0 / c + b / c, of opposite signs
opposite-zero-left : (f : Format) (s t : Bool) (b c : ℕ)
    → 0 < c
    → Same (cond (ltb 0 b) (round f t (b - 0) c) (round f (s && ltb b 0) (0 - b) c)) (round f t b c)
opposite-zero-left f s t b c C = go (ltb 0 b) (nltb→le 0 b)
  where
    go : (x : Bool)
        → (T (not x) → b ≤ 0)
        → Same (cond x (round f t (b - 0) c) (round f (s && ltb b 0) (0 - b) c)) (round f t b c)
    go true h = same-equal (ap (λ (z : ℕ). round f t z c) (sub-zero b))
    go false h =
        same-trans (round-zero-same f (s && ltb b 0) (0 - b) c C (zero-sub b))
        (same-sym (round-zero-same f t b c C (at-most-zero b (h tt))))

-- a / c + 0 / c, of opposite signs
opposite-zero-right : (f : Format) (s t : Bool) (a c : ℕ)
    → 0 < c
    → Same (cond (ltb a 0) (round f t (0 - a) c) (round f (s && ltb 0 a) (a - 0) c)) (round f s a c)
opposite-zero-right f s t a c C = go (ltb a 0) (ltb 0 a) (ltb→lt a 0) (nltb→le 0 a) s
  where
    below-zero : a < 0 → ⊥
    below-zero h = omega arith

    go : (x y : Bool)
        → (T x → a < 0)
        → (T (not y) → a ≤ 0)
        → (s : Bool)
        → Same (cond x (round f t (0 - a) c) (round f (s && y) (a - 0) c)) (round f s a c)
    go true y h k s = absurd (below-zero (h tt))
    go false true h k true = same-equal (ap (λ (z : ℕ). round f true z c) (sub-zero a))
    go false true h k false = same-equal (ap (λ (z : ℕ). round f false z c) (sub-zero a))
    go false false h k s =
        same-trans (round-zero-same f (s && false) (a - 0) c C (sub-zero a ∙ at-most-zero a (k tt)))
        (same-sym (round-zero-same f s a c C (at-most-zero a (k tt))))

sum-zero-left : (f : Format) (s t : Bool) (b c : ℕ) → 0 < c → Same (sum f s 0 t b c) (round f t b c)
unfolding sum
sum-zero-left f true true b c C = same-equal (ap (λ (z : ℕ). round f true z c) (zero-add b))
sum-zero-left f true false b c C = opposite-zero-left f true false b c C
sum-zero-left f false true b c C = opposite-zero-left f false true b c C
sum-zero-left f false false b c C = same-equal (ap (λ (z : ℕ). round f false z c) (zero-add b))

sum-zero-right : (f : Format) (s t : Bool) (a c : ℕ) → 0 < c → Same (sum f s a t 0 c) (round f s a c)
unfolding sum
sum-zero-right f true true a c C = same-equal (ap (λ (z : ℕ). round f true z c) (add-zero a))
sum-zero-right f true false a c C = opposite-zero-right f true false a c C
sum-zero-right f false true a c C = opposite-zero-right f false true a c C
sum-zero-right f false false a c C = same-equal (ap (λ (z : ℕ). round f false z c) (add-zero a))

-- a zero plus y is y rounded
pub zero-add-rounded : (f : Format) (s : Bool) (e : ℤ) (y : Float) → Same (add f (fin s 0 e) y) (rounded f y)
unfolding add rounded
zero-add-rounded f s e nan = same_refl nan
zero-add-rounded f s e (inf t) = same_refl (inf t)
zero-add-rounded f s e (fin t n d) =
    let b = n * up d * down e in
    let c = down e * down d in
    let C = mul-pos (down_pos e) (down_pos d) in
    same-trans (same-equal (ap (λ (z : ℕ). sum f s z t b c) (zero-numerator (up e) (down d))))
    (same-trans (sum-zero-left f s t b c C)
    (same-equal (round_same f t b c (n * up d) (down d) C (down_pos d) (mul_assoc (n * up d) (down e) (down d)))))

pub add-zero-rounded : (f : Format) (x : Float) (t : Bool) (d : ℤ) → Same (add f x (fin t 0 d)) (rounded f x)
unfolding add rounded
add-zero-rounded f nan t d = same_refl nan
add-zero-rounded f (inf s) t d = same_refl (inf s)
add-zero-rounded f (fin s m e) t d =
    let a = m * up e * down d in
    let c = down e * down d in
    let C = mul-pos (down_pos e) (down_pos d) in
    same-trans (same-equal (ap (λ (z : ℕ). sum f s a t z c) (zero-numerator (up d) (down e))))
    (same-trans (sum-zero-right f s t a c C)
    (same-equal (round_same f s a c (m * up e) (down e) C (down_pos e) (simp (mul_assoc, mul_comm, mul_left_comm)))))

add-plus_zero-left : (f : Format) (x y : Float) → Same (add f (plus_zero x) y) (add f x y)
unfolding plus_zero
add-plus_zero-left f nan y = same_refl (add f nan y)
add-plus_zero-left f (inf s) y = same_refl (add f (inf s) y)
add-plus_zero-left f (fin s zero e) y =
    same-trans (zero-add-rounded f false (pos 0) y) (same-sym (zero-add-rounded f s e y))
add-plus_zero-left f (fin s (suc m) e) y = same_refl (add f (fin s (suc m) e) y)

add-plus_zero-right : (f : Format) (x y : Float) → Same (add f x (plus_zero y)) (add f x y)
unfolding plus_zero
add-plus_zero-right f x nan = same_refl (add f x nan)
add-plus_zero-right f x (inf t) = same_refl (add f x (inf t))
add-plus_zero-right f x (fin t zero d) =
    same-trans (add-zero-rounded f x false (pos 0)) (same-sym (add-zero-rounded f x t d))
add-plus_zero-right f x (fin t (suc n) d) = same_refl (add f x (fin t (suc n) d))

pub add_same : (f : Format) {x x' y y' : Float} → Same x x' → Same y y' → Same (add f x y) (add f x' y')
add_same f p q = same_operation (add f) (add-plus_zero-left f) (add-plus_zero-right f) p q

-- ---- difference
pub sub_same : (f : Format) {x x' y y' : Float} → Same x x' → Same y y' → Same (sub f x y) (sub f x' y')
unfolding sub
sub_same f p q = add_same f p (neg_same q)
