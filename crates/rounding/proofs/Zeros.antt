-- Results that are zeros, and what a zero leaves as it is: x - x is +0, a finite number times a zero is a zero, and a
-- zero added to a value of the format changes at most the sign of a zero. So the second difference of order 6 (01, part
-- 9: A3 - 2 A2 + A1 with Ai = -Li, in the Rust's order ((-x3 + x2) + x2) - x1) vanishes where its three values are the
-- same. And values that compare equal are the same. Assumes nothing.
use mathlib.Core.Path.{◌≡◌, refl, sym, ap, ◌∙◌, subst}
use mathlib.Core.Logic.{◌⊎◌, inl, inr}
use mathlib.Core.Bool.{Bool, true, false, not, ◌&&◌, ◌||◌, beq, cond}
use Prim.Native.Nat.{ℕ, zero, suc, ◌-◌, ◌*◌, ◌<◌}
use native.Mathlib.Nat.{zero-lt-suc, lt_irrefl, mul-pos, sub_self}
use lib.IntN.{ℤ, pos}
use lib.Dec.{T, ltb, eqb, ltb→lt, eqb→eq}
use lib.Ieee.{Float, nan, inf, fin, Format, up, down, round, neg, sum, add, sub, mul, fits, eq}
use lib.Ieee.Fits.{up_pos, down_pos, and_l, and_r}
use lib.Ieee.Scale.{finite}
use mir.Facts.{or_yes}
use Rattle.rounding.specs.SignOfZero.{+0, Zero, Same}
use Rattle.rounding.proofs.SignOfZero.{same-is}
use Rattle.rounding.proofs.Value.{one_way}
use Rattle.rounding.proofs.ExactRounding.{zero-numerator, round-zero, rounded-is}
use Rattle.rounding.proofs.Same.{same-equal, same_refl, same-sym, same-trans}
use Rattle.rounding.proofs.Same.{neg_same, add_same, sub_same, mul-same}
use Rattle.rounding.proofs.Same.{zero-times-number, number-times-zero, zero-add-rounded, add-zero-rounded}
use Rattle.rounding.proofs.Finite.{neg-finite, same-finite}

-- ---- x - x

-- a / c - a / c
equal-opposites : (f : Format) (s t : Bool) (a c : ℕ)
    → 0 < c
    → cond (ltb a a) (round f t (a - a) c) (round f (s && ltb a a) (a - a) c) ≡ +0
equal-opposites f s t a c C = go (ltb a a) (ltb→lt a a) s
  where
    go : (x : Bool) → (T x → a < a) → (s : Bool) → cond x (round f t (a - a) c) (round f (s && x) (a - a) c) ≡ +0
    go true h s = absurd (lt_irrefl a (h tt))
    go false h true = ap (λ (z : ℕ). round f false z c) (sub_self a) ∙ round-zero f false c C
    go false h false = ap (λ (z : ℕ). round f false z c) (sub_self a) ∙ round-zero f false c C

-- the difference of a finite value and itself
pub sub-self-zero : (f : Format) (x : Float) → T (finite x) → sub f x x ≡ +0
unfolding sub
sub-self-zero f nan t = absurd t
sub-self-zero f (inf s) t = absurd t
sub-self-zero f (fin true m e) t =
    equal-opposites f true false (m * up e * down e) (down e * down e) (mul-pos (down_pos e) (down_pos e))
sub-self-zero f (fin false m e) t =
    equal-opposites f false true (m * up e * down e) (down e * down e) (mul-pos (down_pos e) (down_pos e))

neg-neg : (x : Float) → neg (neg x) ≡ x
unfolding neg
neg-neg nan = refl
neg-neg (inf true) = refl
neg-neg (inf false) = refl
neg-neg (fin true m e) = refl
neg-neg (fin false m e) = refl

pub neg-add-self-zero : (f : Format) (x : Float) → T (finite x) → add f (neg x) x ≡ +0
unfolding sub
neg-add-self-zero f x t =
    ap (λ (z : Float). add f (neg x) z) (sym (neg-neg x)) ∙ sub-self-zero f (neg x) (neg-finite x t)

-- the difference of two values that are the same: a zero, and not always +0, since -0 - +0 is -0
pub sub-same-zero : (f : Format) {x y : Float} → T (finite x) → Same x y → Same (sub f x y) +0
sub-same-zero f {x} t p = same-trans (sub_same f (same_refl x) (same-sym p)) (same-equal (sub-self-zero f x t))

-- ---- a finite number times a zero

pub mul-zero-left : (f : Format) {z : Float} (x : Float) → Same z +0 → T (finite x) → Same (mul f z x) +0
mul-zero-left f {z} x p t = same-trans (mul-same f p (same_refl x)) (go x t)
  where
    go : (x : Float) → T (finite x) → Same (mul f +0 x) +0
    go nan t = absurd t
    go (inf s) t = absurd t
    go (fin s m e) t = zero-times-number f false (pos 0) s m e

pub mul-zero-right : (f : Format) (x : Float) {z : Float} → T (finite x) → Same z +0 → Same (mul f x z) +0
mul-zero-right f x {z} t p = same-trans (mul-same f (same_refl x) p) (go x t)
  where
    go : (x : Float) → T (finite x) → Same (mul f x +0) +0
    go nan t = absurd t
    go (inf s) t = absurd t
    go (fin s m e) t = number-times-zero f s m e false (pos 0)

-- ---- a sum with a zero

pub add-zero-left : (f : Format) {z x : Float} → Same z +0 → T (fits f x) → Same (add f z x) x
add-zero-left f {z} {x} p q =
    same-trans (add_same f p (same_refl x))
    (same-trans (zero-add-rounded f false (pos 0) x) (same-equal (rounded-is f x q)))

pub add-zero-right : (f : Format) {x z : Float} → T (fits f x) → Same z +0 → Same (add f x z) x
add-zero-right f {x} {z} q p =
    same-trans (add_same f (same_refl x) p)
    (same-trans (add-zero-rounded f x false (pos 0)) (same-equal (rounded-is f x q)))

-- the sum of two zeros: -0 where both are negative, and +0 otherwise
pub zeros-sum : (f : Format) (s t : Bool) (e d : ℤ) → add f (fin s 0 e) (fin t 0 d) ≡ fin (s && t) 0 (pos 0)
unfolding add
zeros-sum f s t e d =
    ap (λ (x : ℕ). sum f s x t (0 * up d * down e) (down e * down d)) (zero-numerator (up e) (down d))
    ∙ ap (λ (x : ℕ). sum f s 0 t x (down e * down d)) (zero-numerator (up d) (down e))
    ∙ go s t (down e * down d) (mul-pos (down_pos e) (down_pos d))
  where
    go : (s t : Bool) (c : ℕ) → 0 < c → sum f s 0 t 0 c ≡ fin (s && t) 0 (pos 0)
    go true true c C = round-zero f true c C
    go true false c C = round-zero f false c C
    go false true c C = round-zero f false c C
    go false false c C = round-zero f false c C

-- the sum and the difference of two zeros are zeros
pub add-zeros : (f : Format) {x y : Float} → Same x +0 → Same y +0 → Same (add f x y) +0
add-zeros f p q = same-trans (add_same f p q) (same-equal (zeros-sum f false false (pos 0) (pos 0)))

pub sub-zeros : (f : Format) {x y : Float} → Same x +0 → Same y +0 → Same (sub f x y) +0
sub-zeros f p q = same-trans (sub_same f p q) (same-equal (sub-self-zero f +0 tt))

pub zero-fits : (f : Format) → T (fits f +0)
unfolding fits
zero-fits f = tt

-- ---- the second difference of order 6

-- (+0 + x) - x
zero-add-sub-self : (f : Format) (x : Float) → T (fits f x) → T (finite x) → sub f (add f +0 x) x ≡ +0
unfolding sub neg
zero-add-sub-self f nan q t = absurd t
zero-add-sub-self f (inf s) q t = absurd t
zero-add-sub-self f (fin s zero e) q t =
    ap (λ (z : Float). add f z (fin (not s) 0 e)) (zeros-sum f false s (pos 0) e) ∙ zeros-sum f false (not s) (pos 0) e
zero-add-sub-self f (fin s (suc m) e) q t = go (same-is.0 (add-zero-left f (same_refl +0) q))
  where
    go : (add f +0 (fin s (suc m) e) ≡ fin s (suc m) e) ⊎ (Zero (add f +0 (fin s (suc m) e)) × Zero (fin s (suc m) e))
        → sub f (add f +0 (fin s (suc m) e)) (fin s (suc m) e) ≡ +0
    go (inl p) = ap (λ (z : Float). sub f z (fin s (suc m) e)) p ∙ sub-self-zero f (fin s (suc m) e) t
    go (inr z) = absurd z.1

-- of one value: +0 itself
pub second-difference : (f : Format) (x : Float)
    → T (fits f x)
    → T (finite x)
    → sub f (add f (add f (neg x) x) x) x ≡ +0
second-difference f x q t =
    ap (λ (z : Float). sub f (add f z x) x) (neg-add-self-zero f x t) ∙ zero-add-sub-self f x q t

-- of three values, each the same as the next: a zero
pub second-difference-same : (f : Format) {x3 x2 x1 : Float}
    → T (fits f x2)
    → T (finite x3)
    → Same x3 x2
    → Same x2 x1
    → Same (sub f (add f (add f (neg x3) x2) x2) x1) +0
second-difference-same f {x3} {x2} {x1} q t p r =
    same-trans (sub_same f (add_same f (add_same f (neg_same p) (same_refl x2)) (same_refl x2)) (same-sym r))
    (same-equal (second-difference f x2 q (same-finite p t)))

-- ---- values that compare equal

beq-equal : (s t : Bool) → T (beq s t) → s ≡ t
beq-equal true true h = refl
beq-equal true false h = absurd h
beq-equal false true h = absurd h
beq-equal false false h = refl

zero-of-number : (s : Bool) (m : ℕ) (e : ℤ) (v : ℕ) → 0 < v → m * up e * v ≡ 0 → Zero (fin s m e)
zero-of-number s zero e v P h = tt
zero-of-number s (suc m) e v P h =
    absurd (lt_irrefl 0 (subst (λ (x : ℕ). 0 < x) h (mul-pos (mul-pos (zero-lt-suc m) (up_pos e)) P)))

-- where `==` holds, the values are equal or both are zeros
pub eq-same : (f : Format) (x y : Float) → T (fits f x) → T (fits f y) → T (eq x y) → Same x y
unfolding eq
eq-same f nan y p q t = absurd t
eq-same f (inf s) nan p q t = absurd t
eq-same f (inf s) (inf u) p q t = same-equal (ap inf (beq-equal s u t))
eq-same f (inf s) (fin u n d) p q t = absurd t
eq-same f (fin s m e) nan p q t = absurd t
eq-same f (fin s m e) (inf u) p q t = absurd t
eq-same f (fin s m e) (fin u n d) p q t =
    let a = m * up e * down d in
    let b = n * up d * down e in
    let numbers : a ≡ b = eqb→eq a b (and_l (eqb a b) (beq s u || eqb a 0) t) in
    elim (or_yes (beq s u) (eqb a 0) (and_r (eqb a b) (beq s u || eqb a 0) t)) [
      | inl g ↦ same-equal (one_way f s u m e n d p q (beq-equal s u g) numbers)
      | inr z ↦ same-is.1 (inr (
        zero-of-number s m e (down d) (down_pos d) (eqb→eq a 0 z),
        zero-of-number u n d (down e) (down_pos e) (sym numbers ∙ eqb→eq a 0 z),
      ))
    ]
