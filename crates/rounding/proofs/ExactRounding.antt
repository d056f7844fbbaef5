-- Where rounding is exact. A fraction whose digits the format can write is rounded to itself unless it overflows
-- (`exact-if-finite`); so a value that fits is rounded to itself (`rounded-is`). A product of two values is the product
-- of any fractions that they equal, rounded (`mul-value`). Assumes nothing.
use mathlib.Core.Path.{◌≡◌, refl, sym, ap, ◌∙◌, subst}
use mathlib.Core.Bool.{Bool, true, false, cond}
use Prim.Native.Nat.{ℕ, zero, suc, ◌+◌, ◌-◌, ◌*◌, ◌/◌, ◌%◌, ◌^◌, ◌≤◌, ◌<◌}
use Prim.Native.Nat.compare
use Prim.Native.Nat.{compare, Ordering}
use native.Mathlib.Nat.{zero-lt-suc, lt_irrefl, zero-mul, mul-pos, mul_assoc, mul_comm, mul-mul-mul_comm}
use native.Mathlib.Nat.{mul-div_cancel, mul-mod_left}
use native.Mathlib.Omega.{arith}
use lib.IntN.{pos}
use lib.Dec.{T, ltb, ltb→lt}
use lib.Pow.{pow-add, pow_pos, shl_lt}
use lib.Ieee.{Float, nan, inf, fin, Format, binary32, binary64, prec, low, unlike, up, down, size, nearest, odd, units}
use lib.Ieee.{round, mul, fits}
use lib.Ieee.Digits.{size-le, back}
use lib.Ieee.Fits.{core, round_is, round-fits, down_pos}
use lib.Ieee.Exact.{HasValue, round_exact}
use lib.Ieee.Scale.{round_same, finite, overflow}
use Rattle.rounding.proofs.Value.{parts, place, place-value, fine-place, unique}

-- ---- exact rounding: num / den is q * 2 ^ j of the smallest values, and q has no more digits than the format keeps

before-positive : (u : ℕ) → 0 < u → compare 0 u ≡ Ordering.lt
before-positive zero h = absurd (lt_irrefl 0 h)
before-positive (suc u) h = compare.zero-suc u

-- where the fraction is a whole number of units, nothing is rounded away
core_exact : (f : Format) (s : Bool) (den k q : ℕ)
    → 0 < den * 2 ^ k
    → core f s (q * (den * 2 ^ k)) den k ≡ units f s q k
core_exact f s den k q h =
    let u = den * 2 ^ k in
    ap (λ (x : ℕ). units f s (nearest x (compare (q * u % u * 2) u)) k) (mul-div_cancel q h)
    ∙ ap (λ (x : ℕ). units f s (nearest q (compare (x * 2) u)) k) (mul-mod_left q u)
    ∙ ap (λ (o : Ordering). units f s (nearest q o) k) (before-positive u h)

dropped-le : (z p l : ℕ) → z ≤ p + l → z - p ≤ l
dropped-le z p l h = omega arith

units-finite : (f : Format) (s : Bool) (q k : ℕ) → T (finite (units f s q k)) → q * 2 ^ k < overflow f
unfolding units
units-finite f s q k = go (ltb (q * 2 ^ k) (overflow f)) (ltb→lt (q * 2 ^ k) (overflow f))
  where
    go : (b : Bool)
        → (T b → q * 2 ^ k < overflow f)
        → T (finite (cond b (odd (suc (prec f)) s q k (low f)) (inf s)))
        → q * 2 ^ k < overflow f
    go true h t = h tt
    go false h t = absurd t

-- a finite result shows that the fraction is below the overflow bound
exact_below : (f : Format) (s : Bool) (num den q j : ℕ)
    → 0 < den
    → q < 2 ^ prec f
    → num * 2 ^ low f ≡ q * 2 ^ j * den
    → T (finite (round f s num den))
    → q * 2 ^ j < overflow f
exact_below f s num den q j dp small h t =
    let n = num * 2 ^ low f in
    let whole : n / den ≡ q * 2 ^ j = ap (λ (x : ℕ). x / den) h ∙ mul-div_cancel (q * 2 ^ j) dp in
    let k = size (n / den) - prec f in
    let k-le : k ≤ j =
    dropped-le (size (n / den)) (prec f) j
    (size-le (n / den) (prec f + j) (subst (λ (x : ℕ). x < 2 ^ (prec f + j)) (sym whole) (shl_lt (prec f) j small))) in
    let r = q * 2 ^ (j - k) in
    let kept : r * 2 ^ k ≡ q * 2 ^ j =
    mul_assoc q (2 ^ (j - k)) (2 ^ k)
    ∙ ap (λ (x : ℕ). q * x) (sym (pow-add 2 (j - k) k) ∙ ap (λ (x : ℕ). 2 ^ x) (back j k k-le)) in
    let n-is : n ≡ r * (den * 2 ^ k) =
    h
    ∙ ap (λ (x : ℕ). x * den) (sym kept)
    ∙ mul_assoc r (2 ^ k) den
    ∙ ap (λ (x : ℕ). r * x) (mul_comm (2 ^ k) den) in
    let is : round f s num den ≡ units f s r k =
    round_is f s num den
    ∙ ap (λ (x : ℕ). core f s x den k) n-is
    ∙ core_exact f s den k r (mul-pos dp (pow_pos k)) in
    subst (λ (x : ℕ). x < overflow f) kept (units-finite f s r k (subst (λ (x : Float). T (finite x)) is t))

-- rounding gives the fraction itself, or an infinity
pub exact-if-finite : (f : Format) (s : Bool) (num den q j : ℕ)
    → 0 < den
    → q < 2 ^ prec f
    → num * 2 ^ low f ≡ q * 2 ^ j * den
    → T (finite (round f s num den))
    → HasValue (round f s num den) s num den
exact-if-finite f s num den q j dp small h t =
    round_exact f s num den q j dp small (exact_below f s num den q j dp small h t) h

-- ---- a zero

pub zero-numerator : (u v : ℕ) → 0 * u * v ≡ 0
zero-numerator u v = ap (λ (x : ℕ). x * v) (zero-mul u) ∙ zero-mul v

-- a zero fraction is rounded to the zero of its sign
pub round-zero : (f : Format) (s : Bool) (c : ℕ) → 0 < c → round f s 0 c ≡ fin s 0 (pos 0)
unfolding round
round-zero f s c C =
    round_same f s 0 c 0 1 C (zero-lt-suc 0) (zero-mul 1 ∙ sym (zero-mul c)) ∙ at_one f
  where
    at_one : (f : Format) → round f s 0 1 ≡ fin s 0 (pos 0)
    at_one binary32 = refl
    at_one binary64 = refl

-- ---- a value that fits, rounded again, is itself

-- a value with its number rounded
unfoldable pub rounded : Format → Float → Float
rounded f nan = nan
rounded f (inf s) = inf s
rounded f (fin s m e) = round f s (m * up e) (down e)

pub rounded-is : (f : Format) (x : Float) → T (fits f x) → rounded f x ≡ x
unfolding rounded
rounded-is f nan p = refl
rounded-is f (inf s) p = refl
rounded-is f (fin s m e) p =
    let g = parts f s m e p in
    let value =
    round_exact f s (m * up e) (down e) m (place (low f) e) (down_pos e) g.digits (fine-place f m e g)
    (place-value f m e g) in
    unique f (round f s (m * up e) (down e)) (fin s m e) s (m * up e) (down e) (down_pos e)
    (round-fits f s (m * up e) (down e)) p value (refl, refl)

-- ---- a product of two values, by any fractions a / c and b / d that they equal
pub mul-value : (f : Format) (x y : Float) (s t : Bool) (a c b d : ℕ)
    → 0 < c
    → 0 < d
    → HasValue x s a c
    → HasValue y t b d
    → mul f x y ≡ round f (unlike s t) (a * b) (c * d)
unfolding mul
mul-value f nan y s t a c b d C D v w = absurd v
mul-value f (inf s') y s t a c b d C D v w = absurd v
mul-value f (fin s' m e) nan s t a c b d C D v w = absurd w
mul-value f (fin s' m e) (inf t') s t a c b d C D v w = absurd w
mul-value f (fin s' m e) (fin t' n g) s t a c b d C D v w =
    round_same f (unlike s' t') (m * up e * (n * up g)) (down e * down g) (a * b) (c * d)
    (mul-pos (down_pos e) (down_pos g)) (mul-pos C D)
    (mul-mul-mul_comm (m * up e) (n * up g) c d
    ∙ ap (λ (z : ℕ). z * (n * up g * d)) v.1
    ∙ ap (λ (z : ℕ). a * down e * z) w.1
    ∙ mul-mul-mul_comm a (down e) b (down g))
    ∙ (λ i. round f (unlike (v.0 i) (w.0 i)) (a * b) (c * d))
