-- The square root of a value that fits never lies in the middle between two neighbours of its format: no tie occurs.
-- With m * 2 ^ e under the root, a tie says m * 2 ^ a = (2 * q + 1) ^ 2 * 4 ^ k for some a above 0. Both m and
-- 2 * q + 1 are odd, so m = (2 * q + 1) ^ 2 and a = 2 * k. Hence k is above 0: digits were dropped, and q has all the
-- digits that the format keeps. Then (2 * q + 1) ^ 2 has more digits than that, and m has not. Assumes nothing.
use mathlib.Core.Path.{◌≡◌, sym, ap, ◌∙◌}
use mathlib.Core.Bool.{false}
use Prim.Native.Nat.{ℕ, zero, suc, ◌+◌, ◌-◌, ◌*◌, ◌/◌, ◌%◌, ◌^◌, ◌≤◌, ◌<◌}
use native.Mathlib.Nat.{le_trans, le_of_eq, lt_irrefl, lt_of_lt_of_le, le-mul_of_pos_right, eq_of_mul-eq-mul_right}
use native.Mathlib.Nat.{add-mul, mul_assoc, mul_comm, mul_left_comm, mul-le-mul_left, pow-succ'}
use native.Mathlib.Omega.{arith}
use lib.IntN.{ℤ}
use lib.Dec.{T}
use lib.Pow.{pow-add}
use lib.Ieee.{fin, Format, prec, low, up, down, size, fits}
use lib.Ieee.Fits.{two, two-le_pos, down_pos}
use Rattle.rounding.proofs.Value.{odd-and-parts, place, place_is, odd-times-power}
use Rattle.ieee_square_root.specs.IntegerRoot.{isqrt, four-pow}
use Rattle.ieee_square_root.proofs.RoundedRoot.{truncated-full}

-- ---- the square of an odd number

odd-square : (q : ℕ) → (2 * q + 1) * (2 * q + 1) % 2 ≡ 1
odd-square q =
    parity q (q * (2 * q + 1)) ((2 * q + 1) * (2 * q + 1))
    (add-mul (2 * q) 1 (2 * q + 1) ∙ ap (λ (x : ℕ). x + 1 * (2 * q + 1)) (mul_assoc 2 q (2 * q + 1)))
  where
    parity : (q x s : ℕ) → s ≡ 2 * x + 1 * (2 * q + 1) → s % 2 ≡ 1
    parity q x s h = omega arith

-- where q has p digits, the square of 2 * q + 1 has more
square-has-more-digits : (p q : ℕ) → 0 < p → 2 ^ (p - 1) ≤ q → 2 ^ p ≤ (2 * q + 1) * (2 * q + 1)
square-has-more-digits zero q p-pos h = absurd (lt_irrefl 0 p-pos)
square-has-more-digits (suc p) q p-pos h =
    le_trans (le_of_eq (pow-succ' 2 p))
    (le_trans (mul-le-mul_left 2 (le_trans (le_of_eq (ap (λ (x : ℕ). 2 ^ x) (before p))) h))
    (le_trans (next q) (le-mul_of_pos_right (2 * q + 1) (positive q))))
  where
    before : (p : ℕ) → p ≡ suc p - 1
    before p = omega arith

    next : (q : ℕ) → 2 * q ≤ 2 * q + 1
    next q = omega arith

    positive : (q : ℕ) → 0 < 2 * q + 1
    positive q = omega arith

-- ---- a tie as an equation between an odd number and an odd square, each times a power of 2

-- The fraction under the root is m * num / den, where num / den is 2 ^ a of the format's smallest value, 2 ^ -l.
tie-in-powers : (m num den a l k s : ℕ)
    → 0 < den
    → num * 2 ^ l ≡ 2 ^ a * den
    → m * num * 4 ^ l * 4 ≡ s * (den * 4 ^ k)
    → m * 2 ^ (a + l + 2) ≡ s * 2 ^ (k + k)
tie-in-powers m num den a l k s den_pos exact tie =
    eq_of_mul-eq-mul_right den den_pos (m * 2 ^ (a + l + 2)) (s * 2 ^ (k + k))
    (ap (λ (x : ℕ). m * x * den) (pow-add 2 (a + l) 2 ∙ ap (λ (x : ℕ). x * 4) (pow-add 2 a l))
    ∙ gather (2 ^ a) (2 ^ l)
    ∙ ap (λ (x : ℕ). m * (x * 2 ^ l) * 4) (sym exact)
    ∙ regroup (2 ^ l)
    ∙ ap (λ (x : ℕ). m * num * x * 4) (sym (four-pow l))
    ∙ tie
    ∙ ap (λ (x : ℕ). s * (den * x)) (four-pow k ∙ sym (pow-add 2 k k))
    ∙ ap (λ (x : ℕ). s * x) (mul_comm den (2 ^ (k + k)))
    ∙ sym (mul_assoc s (2 ^ (k + k)) den))
  where
    gather : (x y : ℕ) → m * (x * y * 4) * den ≡ m * (x * den * y) * 4
    gather x y = simp (mul_assoc, mul_comm, mul_left_comm)

    regroup : (y : ℕ) → m * (num * y * y) * 4 ≡ m * num * (y * y) * 4
    regroup y = simp (mul_assoc, mul_comm, mul_left_comm)

-- m is odd and has p digits at most; q has all p digits if any was dropped
no-tie-in-powers : (p m q i k : ℕ)
    → 0 < p
    → m % 2 ≡ 1
    → m < 2 ^ p
    → (0 < k → 2 ^ (p - 1) ≤ q)
    → ¬ (m * 2 ^ (i + 2) ≡ (2 * q + 1) * (2 * q + 1) * 2 ^ (k + k))
no-tie-in-powers p m q i k p-pos odd few full tie =
    let same = odd-times-power m ((2 * q + 1) * (2 * q + 1)) (i + 2) (k + k) odd (odd-square q) tie in
    let more : 2 ^ p ≤ (2 * q + 1) * (2 * q + 1) =
    square-has-more-digits p q p-pos (full (dropped i k same.1)) in
    lt_irrefl m (lt_of_lt_of_le few (le_trans more (le_of_eq (sym same.0))))
  where
    dropped : (i k : ℕ) → i + 2 ≡ k + k → 0 < k
    dropped i k h = omega arith

-- ---- the theorem

-- For a value that fits, the two sides that `round_root` compares are never equal. The names are those in its text.
pub no_tie : (f : Format) (m : ℕ) (e : ℤ)
    → T (fits f (fin false (suc m) e))
    → let n = suc m * up e * 4 ^ low f in
    let k = size (isqrt (n / down e)) - prec f in
    let u = down e * 4 ^ k in
    let q = isqrt (n / u) in
    ¬ (n * 4 ≡ (2 * q + 1) * (2 * q + 1) * u)
no_tie f m e h tie =
    let n = suc m * up e * 4 ^ low f in
    let k = size (isqrt (n / down e)) - prec f in
    let q = isqrt (n / (down e * 4 ^ k)) in
    let a = place (low f) e in
    let prec-pos = two-le_pos (prec f) (two f) in
    let odd = (odd-and-parts f false m e h).0 in
    let bounds = (odd-and-parts f false m e h).1 in
    no-tie-in-powers (prec f) (suc m) q (a + low f) k prec-pos odd bounds.digits
    (truncated-full (prec f) n (down e) (down_pos e) prec-pos)
    (tie-in-powers (suc m) (up e) (down e) a (low f) k ((2 * q + 1) * (2 * q + 1)) (down_pos e)
    (place_is (low f) e bounds.fine) tie)
