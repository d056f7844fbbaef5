-- Doubling and halving are exact. x + x is twice x wherever it is finite. -0.5 * τ is half of τ, negated, where τ is a
-- step length (specs/StepLength.antt): then the last of its digits does not stand at the format's smallest place.
-- So (-0.5 * τ) * (y + y) and τ * (-y) round one fraction with one sign, and are equal. By this the first term of
-- order 4 (01, part 6), on two samples that are one, is the plain sum's τ * (-y). Assumes nothing.
use mathlib.Core.Path.{◌≡◌, refl, sym, ap, ◌∙◌, subst}
use mathlib.Core.Logic.{inl, inr}
use mathlib.Core.Bool.{Bool, true, false, not}
use Prim.Native.Nat.{ℕ, zero, suc, ◌+◌, ◌*◌, ◌^◌, ◌≤◌, ◌<◌}
use native.Mathlib.Nat.{zero-lt-suc, le_trans, le_of_eq, le-suc, lt_irrefl, lt_of_le_of_lt, not-le_of_lt, mul-pos}
use native.Mathlib.Nat.{mul-one, one-mul, two-mul, mul_assoc, mul_comm, mul_left_comm, mul-le-mul_left}
use native.Mathlib.Nat.{le_of_mul-le-mul_right, pow-succ'}
use lib.IntN.{ℤ}
use lib.Dec.{T}
use lib.Pow.{pow_mono}
use lib.Ieee.{Float, nan, inf, fin, Format, binary32, binary64, prec, low, unlike, up, down, round, fits}
use lib.Ieee.{neg, sum, add, mul, eq, le}
use lib.Ieee.Fits.{down_pos}
use lib.Ieee.Exact.{HasValue, round_exact}
use lib.Ieee.Scale.{round_same, finite, overflow}
use lib.Ieee.Positive.{above_of_le, values_of_le}
use mir.Facts.{or_yes}
use Rattle.rounding.specs.SignOfZero.{+0, Zero}
use Rattle.rounding.proofs.SignOfZero.{zero_is}
use Rattle.rounding.specs.StepLength.{least_step, least_step-value, step_length, minus_half}
use Rattle.rounding.proofs.Value.{parts, place, place-value, fine-place, zero_exponent}
use Rattle.rounding.proofs.ExactRounding.{exact-if-finite, mul-value}
use Rattle.rounding.proofs.Finite.{finite-of-add}
use Rattle.rounding.proofs.Zeros.{zero-fits, eq-same}

-- ---- x + x

twice-is : (f : Format) (s : Bool) (m : ℕ) (e : ℤ) → add f (fin s m e) (fin s m e) ≡ round f s (2 * (m * up e)) (down e)
unfolding add
twice-is f s m e =
    let a = m * up e * down e in
    let c = down e * down e in
    like s a c
    ∙ round_same f s (a + a) c (2 * (m * up e)) (down e) (mul-pos (down_pos e) (down_pos e)) (down_pos e)
    (ap (λ (x : ℕ). x * down e) (sym (two-mul a)) ∙ simp (mul_assoc, mul_comm, mul_left_comm))
  where
    like : (s : Bool) (a c : ℕ) → sum f s a s a c ≡ round f s (a + a) c
    like true a c = refl
    like false a c = refl

-- x + x is twice x, for x of the format, unless it overflows
pub twice-exact : (f : Format) (s : Bool) (m : ℕ) (e : ℤ)
    → T (fits f (fin s m e))
    → T (finite (add f (fin s m e) (fin s m e)))
    → HasValue (add f (fin s m e) (fin s m e)) s (2 * (m * up e)) (down e)
twice-exact f s m e p t =
    let g = parts f s m e p in
    let k = place (low f) e in
    let shifted : 2 * (m * up e) * 2 ^ low f ≡ m * 2 ^ suc k * down e =
    mul_assoc 2 (m * up e) (2 ^ low f)
    ∙ ap (λ (x : ℕ). 2 * x) (place-value f m e g)
    ∙ one_more m k (down e) in
    subst (λ (x : Float). HasValue x s (2 * (m * up e)) (down e)) (sym (twice-is f s m e))
    (exact-if-finite f s (2 * (m * up e)) (down e) m (suc k) (down_pos e) g.digits shifted
    (subst (λ (x : Float). T (finite x)) (twice-is f s m e) t))
  where
    one_more : (m k d : ℕ) → 2 * (m * 2 ^ k * d) ≡ m * 2 ^ suc k * d
    one_more m k d = simp (mul_assoc, mul_comm, mul_left_comm, pow-succ')

-- ---- -0.5 * τ

half_is : (f : Format) (s : Bool) (m : ℕ) (e : ℤ)
    → mul f minus_half (fin s m e) ≡ round f (not s) (m * up e) (2 * down e)
unfolding mul
half_is f true m e = ap (λ (x : ℕ). round f false x (2 * down e)) (one-mul (m * up e))
half_is f false m e = ap (λ (x : ℕ). round f true x (2 * down e)) (one-mul (m * up e))

-- exact where the last digit stands above the smallest place: then it can move one place down
half-above-smallest : (f : Format) (s : Bool) (m : ℕ) (e : ℤ)
    → T (fits f (fin s m e))
    → 0 < place (low f) e
    → HasValue (mul f minus_half (fin s m e)) (not s) (m * up e) (2 * down e)
half-above-smallest f s m e p h =
    let g = parts f s m e p in
    subst (λ (x : Float). HasValue x (not s) (m * up e) (2 * down e)) (sym (half_is f s m e))
    (go (place (low f) e) h (fine-place f m e g) (place-value f m e g))
  where
    go : (k : ℕ)
        → 0 < k
        → m * 2 ^ k < overflow f
        → m * up e * 2 ^ low f ≡ m * 2 ^ k * down e
        → HasValue (round f (not s) (m * up e) (2 * down e)) (not s) (m * up e) (2 * down e)
    go zero h o v = absurd (lt_irrefl 0 h)
    go (suc k) h o v =
        round_exact f (not s) (m * up e) (2 * down e) m k (mul-pos (zero-lt-suc 1) (down_pos e))
        (parts f s m e p).digits (lt_of_le_of_lt (mul-le-mul_left m (pow_mono (le-suc k))) o)
        (v ∙ simp (mul_assoc, mul_comm, mul_left_comm, pow-succ'))

-- a zero's exponent is 0, far above the smallest place
zero-above-smallest : (f : Format) (s : Bool) (m : ℕ) (e : ℤ)
    → T (fits f (fin s m e))
    → Zero (fin s m e)
    → 0 < place (low f) e
unfolding place
zero-above-smallest f s zero e p z =
    subst (λ (x : ℤ). 0 < place (low f) x) (sym (zero_exponent f s e p)) (low-positive f)
  where
    low-positive : (f : Format) → 0 < 0 + low f
    low-positive binary32 = zero-lt-suc 148
    low-positive binary64 = zero-lt-suc 1073
zero-above-smallest f s (suc m) e p z = absurd z

-- in units of the smallest value, what is at least `least_step` is 2 ^ prec or more
least-units : (f : Format) (s : Bool) (m : ℕ) (e : ℤ)
    → T (le (least_step f) (fin s m e))
    → 2 ^ prec f * down e ≤ m * up e * 2 ^ low f
least-units f true m e t = absurd (above_of_le (least_step f) (fin true m e) tt t)
least-units f false m e t =
    values_of_le (least_step f) (fin false m e) (2 ^ prec f) (2 ^ low f) (m * up e) (down e) tt
    (above_of_le (least_step f) (fin false m e) tt t) (least_step-value f) (refl, refl) t

-- m alone is less than 2 ^ prec, so its last digit does not stand at the smallest place
least-above-smallest : (f : Format) (s : Bool) (m : ℕ) (e : ℤ)
    → T (fits f (fin s m e))
    → T (le (least_step f) (fin s m e))
    → 0 < place (low f) e
least-above-smallest f s m e p t =
    let units : 2 ^ prec f * down e ≤ m * 2 ^ place (low f) e * down e =
    le_trans (least-units f s m e t) (le_of_eq (place-value f m e (parts f s m e p))) in
    go (place (low f) e) (le_of_mul-le-mul_right units (down_pos e))
  where
    go : (k : ℕ) → 2 ^ prec f ≤ m * 2 ^ k → 0 < k
    go zero h = absurd (not-le_of_lt (parts f s m e p).digits (le_trans h (le_of_eq (mul-one m))))
    go (suc k) h = zero-lt-suc k

step-above-smallest : (f : Format) (s : Bool) (m : ℕ) (e : ℤ)
    → T (fits f (fin s m e))
    → T (step_length f (fin s m e))
    → 0 < place (low f) e
unfolding step_length
step-above-smallest f s m e p t = elim (or_yes (eq (fin s m e) +0) (le (least_step f) (fin s m e)) t) [
  | inl z ↦ zero-above-smallest f s m e p (zero_is.0 (eq-same f (fin s m e) +0 p (zero-fits f) z))
  | inr b ↦ least-above-smallest f s m e p b
]

-- -0.5 * τ is half of τ, with the other sign
pub half-exact : (f : Format) (s : Bool) (m : ℕ) (e : ℤ)
    → T (fits f (fin s m e))
    → T (step_length f (fin s m e))
    → HasValue (mul f minus_half (fin s m e)) (not s) (m * up e) (2 * down e)
half-exact f s m e p t = half-above-smallest f s m e p (step-above-smallest f s m e p t)

-- ---- (-0.5 * τ) * (y + y) is τ * (-y)

opposite-signs : (s t : Bool) → unlike (not s) t ≡ unlike s (not t)
opposite-signs true true = refl
opposite-signs true false = refl
opposite-signs false true = refl
opposite-signs false false = refl

-- of two numbers
half-times-twice-numbers : (f : Format) (s : Bool) (m : ℕ) (e : ℤ) (t : Bool) (n : ℕ) (d : ℤ)
    → T (fits f (fin s m e))
    → T (step_length f (fin s m e))
    → T (fits f (fin t n d))
    → T (finite (add f (fin t n d) (fin t n d)))
    → mul f (mul f minus_half (fin s m e)) (add f (fin t n d) (fin t n d)) ≡ mul f (fin s m e) (neg (fin t n d))
unfolding mul neg
half-times-twice-numbers f s m e t n d p b q g =
    let τ = m * up e in
    let y = n * up d in
    let half-positive = mul-pos (zero-lt-suc 1) (down_pos e) in
    mul-value f (mul f minus_half (fin s m e)) (add f (fin t n d) (fin t n d)) (not s) t τ (2 * down e) (2 * y) (down d)
    half-positive (down_pos d) (half-exact f s m e p b) (twice-exact f t n d q g)
    ∙ ap (λ (x : Bool). round f x (τ * (2 * y)) (2 * down e * down d)) (opposite-signs s t)
    ∙ round_same f (unlike s (not t)) (τ * (2 * y)) (2 * down e * down d) (τ * y) (down e * down d)
    (mul-pos half-positive (down_pos d)) (mul-pos (down_pos e) (down_pos d)) (simp (mul_assoc, mul_comm, mul_left_comm))

-- of any values; for a τ that is a zero too
pub half-times-twice : (f : Format) (τ y : Float)
    → T (fits f τ)
    → T (fits f y)
    → T (step_length f τ)
    → T (finite τ)
    → T (finite (add f y y))
    → mul f (mul f minus_half τ) (add f y y) ≡ mul f τ (neg y)
half-times-twice f nan y p q b t g = absurd t
half-times-twice f (inf s) y p q b t g = absurd t
half-times-twice f (fin s m e) nan p q b t g = absurd (finite-of-add f nan nan g).0
half-times-twice f (fin s m e) (inf u) p q b t g = absurd (finite-of-add f (inf u) (inf u) g).0
half-times-twice f (fin s m e) (fin u n d) p q b t g = half-times-twice-numbers f s m e u n d p b q g
