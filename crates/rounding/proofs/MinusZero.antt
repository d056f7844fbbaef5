-- The sum of two values of a format is -0 only where the first is: a sum that is not zero is at least the format's
-- smallest value, so it does not round to a zero. So a sum that starts from +0, as a row of a product does, is never -0.
-- And values that are the same and not -0 are equal. Assumes nothing.
use mathlib.Core.Path.{◌≡◌, refl, sym, ap, ap₂, ◌∙◌, subst}
use mathlib.Core.Logic.{◌⊎◌, inl, inr}
use mathlib.Core.Bool.{Bool, true, false, ◌&&◌, beq, cond}
use Prim.Native.Nat.{ℕ, zero, suc, ◌+◌, ◌-◌, ◌*◌, ◌^◌, ◌≤◌, ◌<◌}
use native.Mathlib.Nat.{zero-lt-suc, lt_irrefl, le_trans, le_of_eq, eq-zero-or-pos, le-mul_of_pos_right, sub-pos_iff_lt}
use native.Mathlib.Nat.{mul-zero, one-mul, mul-pos, mul_assoc, mul_comm, mul-add, mul-sub}
use native.Mathlib.Omega.{arith}
use lib.IntN.{ℤ}
use lib.Dec.{T, ltb, ltb→lt, lit<}
use lib.Pow.{pow_pos, pow-lt}
use lib.Ieee.{Float, nan, inf, fin, Format, binary32, binary64, prec, emax, low, up, down, odd, units}
use lib.Ieee.{round, sum, add, fits}
use lib.Ieee.Fits.{round_is, down_pos, up_pos}
use lib.Ieee.Exact.{round_exact}
use lib.Ieee.Order.{round_mono}
use lib.Ieee.Positive.{positive, above, above_of_le, positive_of_value}
use lib.Ieee.Scale.{overflow}
use Rattle.rounding.specs.SignOfZero.{+0, Zero, Same}
use Rattle.rounding.proofs.SignOfZero.{same-is}
use Rattle.rounding.proofs.Value.{parts, place, place-value, zero_exponent}

-- x is -0
abbrev pub MinusZero : Float → Type 0
MinusZero nan = ⊥
MinusZero (inf s) = ⊥
MinusZero (fin true zero e) = Unit {0}
MinusZero (fin true (suc m) e) = ⊥
MinusZero (fin false m e) = ⊥

-- ---- a fraction of at least the smallest value does not round to a zero

zero-of-minus-zero : (x : Float) → MinusZero x → Zero x
zero-of-minus-zero nan z = z
zero-of-minus-zero (inf s) z = z
zero-of-minus-zero (fin true zero e) z = tt
zero-of-minus-zero (fin true (suc m) e) z = z
zero-of-minus-zero (fin false m e) z = absurd z

not-above : (x : Float) → T (above x) → Zero x → ⊥
not-above nan t z = t
not-above (inf s) t z = z
not-above (fin true m e) t z = t
not-above (fin false zero e) t z = lt_irrefl 0 (ltb→lt 0 0 t)
not-above (fin false (suc m) e) t z = z

-- whether a fraction rounds to a zero does not depend on its sign
units-zero-sign : (f : Format) (s t : Bool) (q k : ℕ) → Zero (units f s q k) → Zero (units f t q k)
unfolding units odd
units-zero-sign f s t q k = go (ltb (q * 2 ^ k) (overflow f)) q
  where
    go : (b : Bool) (q : ℕ)
        → Zero (cond b (odd (suc (prec f)) s q k (low f)) (inf s))
        → Zero (cond b (odd (suc (prec f)) t q k (low f)) (inf t))
    go true zero z = tt
    go true (suc q) z = z
    go false q z = z

round-zero-sign : (f : Format) (s t : Bool) (a c : ℕ) → Zero (round f s a c) → Zero (round f t a c)
round-zero-sign f s t a c z =
    subst Zero (sym (round_is f t a c)) (units-zero-sign f s t _ _ (subst Zero (round_is f s a c) z))

-- a fraction that is not negative does not round to -0
units-not-minus-zero : (f : Format) (q k : ℕ) → MinusZero (units f false q k) → ⊥
unfolding units odd
units-not-minus-zero f q k = go (ltb (q * 2 ^ k) (overflow f)) q
  where
    go : (b : Bool) (q : ℕ) → MinusZero (cond b (odd (suc (prec f)) false q k (low f)) (inf false)) → ⊥
    go true zero z = z
    go true (suc q) z = z
    go false q z = z

round-not-minus-zero : (f : Format) (a c : ℕ) → MinusZero (round f false a c) → ⊥
round-not-minus-zero f a c z = units-not-minus-zero f _ _ (subst MinusZero (round_is f false a c) z)

-- the smallest value
smallest-positive : (f : Format) → T (positive (round f false 1 (2 ^ low f)))
smallest-positive f =
    positive_of_value (round f false 1 (2 ^ low f)) 1 (2 ^ low f)
    (round_exact f false 1 (2 ^ low f) 1 0 (pow_pos (low f)) (few f) (little f) refl) (zero-lt-suc 0)
  where
    few : (f : Format) → 1 < 2 ^ prec f
    few binary32 = lit< tt
    few binary64 = lit< tt

    little : (f : Format) → 1 * 2 ^ 0 < overflow f
    little binary32 = pow-lt {i = 0} {j = low binary32 + suc (emax binary32)} (lit< tt)
    little binary64 = pow-lt {i = 0} {j = low binary64 + suc (emax binary64)} (lit< tt)

-- num / c is a multiple of the smallest value, and not zero
multiple-not-zero : (f : Format) (s : Bool) (num c q : ℕ)
    → 0 < c
    → 0 < num
    → 2 ^ low f * num ≡ c * q
    → Zero (round f s num c)
    → ⊥
multiple-not-zero f s num c q C N e z =
    not-above (round f false num c)
    (above_of_le (round f false 1 (2 ^ low f)) (round f false num c) (smallest-positive f)
    (round_mono f 1 (2 ^ low f) num c (pow_pos (low f)) C at_least))
    (round-zero-sign f s false num c z)
  where
    positive-multiple : (q ≡ 0) ⊎ (0 < q) → 0 < q
    positive-multiple (inl h) =
        let none : 2 ^ low f * num ≡ 0 = e ∙ ap (λ (x : ℕ). c * x) h ∙ mul-zero c in
        absurd (lt_irrefl 0 (subst (λ (x : ℕ). 0 < x) none (mul-pos (pow_pos (low f)) N)))
    positive-multiple (inr h) = h

    at_least : 1 * c ≤ num * 2 ^ low f
    at_least =
        le_trans (le_of_eq (one-mul c))
        (le_trans (le-mul_of_pos_right c (positive-multiple (eq-zero-or-pos q)))
        (le_of_eq (sym e ∙ mul_comm (2 ^ low f) num)))

-- ---- the sum of two values

-- a / c counted in smallest values: A of them
abbrev Counts : Format → ℕ → ℕ → ℕ → Type 0
Counts f c a A = 2 ^ low f * a ≡ c * A

counts-of-number : (f : Format) (s : Bool) (m : ℕ) (e : ℤ) (v : ℕ)
    → T (fits f (fin s m e))
    → Counts f (down e * v) (m * up e * v) (m * 2 ^ place (low f) e)
counts-of-number f s m e v p =
    sym (mul_assoc (2 ^ low f) (m * up e) v)
    ∙ ap (λ (x : ℕ). x * v) (mul_comm (2 ^ low f) (m * up e) ∙ place-value f m e (parts f s m e p))
    ∙ mul_assoc (m * 2 ^ place (low f) e) (down e) v
    ∙ mul_comm (m * 2 ^ place (low f) e) (down e * v)

counts-add : (f : Format) (c a b A B : ℕ) → Counts f c a A → Counts f c b B → Counts f c (a + b) (A + B)
counts-add f c a b A B p q = mul-add (2 ^ low f) a b ∙ ap₂ ◌+◌ p q ∙ sym (mul-add c A B)

counts-sub : (f : Format) (c a b A B : ℕ) → Counts f c a A → Counts f c b B → Counts f c (a - b) (A - B)
counts-sub f c a b A B p q = mul-sub (2 ^ low f) a b ∙ ap₂ ◌-◌ p q ∙ sym (mul-sub c A B)

-- of opposite signs
opposite-not-minus-zero : (f : Format) (s t : Bool) (a b c A B : ℕ)
    → 0 < c
    → Counts f c a A
    → Counts f c b B
    → MinusZero (cond (ltb a b) (round f t (b - a) c) (round f (s && ltb b a) (a - b) c))
    → ⊥
opposite-not-minus-zero f s t a b c A B C p q = go (ltb a b) (ltb b a) (ltb→lt a b) (ltb→lt b a) s
  where
    go : (x y : Bool)
        → (T x → a < b)
        → (T y → b < a)
        → (s : Bool)
        → MinusZero (cond x (round f t (b - a) c) (round f (s && y) (a - b) c))
        → ⊥
    go true y h k s z =
        multiple-not-zero f t (b - a) c (B - A) C (sub-pos_iff_lt.1 (h tt)) (counts-sub f c b a B A q p)
        (zero-of-minus-zero (round f t (b - a) c) z)
    go false true h k s z =
        multiple-not-zero f (s && true) (a - b) c (A - B) C (sub-pos_iff_lt.1 (k tt)) (counts-sub f c a b A B p q)
        (zero-of-minus-zero (round f (s && true) (a - b) c) z)
    go false false h k true z = round-not-minus-zero f (a - b) c z
    go false false h k false z = round-not-minus-zero f (a - b) c z

-- of any signs
sum-not-minus-zero : (f : Format) (s : Bool) (a : ℕ) (t : Bool) (b c A B : ℕ)
    → 0 < c
    → Counts f c a A
    → Counts f c b B
    → (T s → 0 < a)
    → MinusZero (sum f s a t b c)
    → ⊥
unfolding sum
sum-not-minus-zero f true a true b c A B C p q h z =
    multiple-not-zero f true (a + b) c (A + B) C (add-pos-left a b (h tt)) (counts-add f c a b A B p q)
    (zero-of-minus-zero (round f true (a + b) c) z)
  where
    add-pos-left : (a b : ℕ) → 0 < a → 0 < a + b
    add-pos-left a b h = omega arith
sum-not-minus-zero f true a false b c A B C p q h z = opposite-not-minus-zero f true false a b c A B C p q z
sum-not-minus-zero f false a true b c A B C p q h z = opposite-not-minus-zero f false true a b c A B C p q z
sum-not-minus-zero f false a false b c A B C p q h z = round-not-minus-zero f (a + b) c z

-- a sum is -0 only where its first summand is
pub add-not-minus-zero : (f : Format) (x y : Float)
    → T (fits f x)
    → T (fits f y)
    → (MinusZero x → ⊥)
    → MinusZero (add f x y)
    → ⊥
unfolding add
add-not-minus-zero f nan y p q h z = z
add-not-minus-zero f (inf s) nan p q h z = z
add-not-minus-zero f (inf s) (inf t) p q h z = go (beq s t) z
  where
    go : (b : Bool) → MinusZero (cond b (inf s) nan) → ⊥
    go true z = z
    go false z = z
add-not-minus-zero f (inf s) (fin t n d) p q h z = z
add-not-minus-zero f (fin s m e) nan p q h z = z
add-not-minus-zero f (fin s m e) (inf t) p q h z = z
add-not-minus-zero f (fin s m e) (fin t n d) p q h z =
    sum-not-minus-zero f s (m * up e * down d) t (n * up d * down e) (down e * down d)
    (m * 2 ^ place (low f) e) (n * 2 ^ place (low f) d) (mul-pos (down_pos e) (down_pos d))
    (counts-of-number f s m e (down d) p)
    (subst (λ (c : ℕ). Counts f c (n * up d * down e) (n * 2 ^ place (low f) d)) (mul_comm (down d) (down e))
    (counts-of-number f t n d (down e) q))
    (λ S. mul-pos (mul-pos (not-zero s m h S) (up_pos e)) (down_pos d))
    z
  where
    not-zero : (s : Bool) (m : ℕ) → (MinusZero (fin s m e) → ⊥) → T s → 0 < m
    not-zero true zero h S = absurd (h tt)
    not-zero true (suc m) h S = zero-lt-suc m
    not-zero false m h S = absurd S

-- ---- values that are the same

plus-zero : (f : Format) (x : Float) → T (fits f x) → Zero x → (MinusZero x → ⊥) → x ≡ +0
plus-zero f nan p z h = absurd z
plus-zero f (inf s) p z h = absurd z
plus-zero f (fin true zero e) p z h = absurd (h tt)
plus-zero f (fin false zero e) p z h = ap (fin false 0) (zero_exponent f false e p)
plus-zero f (fin s (suc m) e) p z h = absurd z

-- values of the format that are the same and not -0 are equal
pub same-not-minus-zero : (f : Format) {x y : Float}
    → T (fits f x)
    → T (fits f y)
    → (MinusZero x → ⊥)
    → (MinusZero y → ⊥)
    → Same x y
    → x ≡ y
same-not-minus-zero f {x} {y} p q h k r = elim (same-is.0 r) [
  | inl e ↦ e
  | inr z ↦ plus-zero f x p z.0 h ∙ sym (plus-zero f y q z.1 k)
]
