-- The values of a format around the rounded root, in units of the format's smallest value. The rounded root is
-- r * 2 ^ k, and any other value is a number of p digits at most, times a power of 2. Where digits were dropped, a
-- value that is q * 2 ^ k or more is a multiple of 2 ^ k. So the next one above r * 2 ^ k is (r + 1) * 2 ^ k, and the
-- next one below (q + 1) * 2 ^ k is q * 2 ^ k. All lie farther from the root than r * 2 ^ k, to which it was rounded
-- without a tie. Nothing here is about floats. Assumes nothing.
use mathlib.Core.Path.{◌≡◌, sym, ap, ◌∙◌}
use Prim.Native.Nat.{ℕ, zero, suc, ◌+◌, ◌-◌, ◌*◌, ◌^◌, ◌≤◌, ◌<◌}
use native.Mathlib.Nat.{le_refl, le_trans, le_of_eq, le_of_lt, lt_of_lt_of_le, lt_of_le_of_lt, lt_of_not-le}
use native.Mathlib.Nat.{not-le_of_lt, le_of_suc-le-suc, zero-lt-suc, add-mul, add-le-add, add-lt-add_of_le_of_lt}
use native.Mathlib.Nat.{mul-one, mul_assoc, mul_right_comm, mul-mul-mul_comm, mul-le-mul_right, mul-lt-mul_of_pos_right}
use native.Mathlib.Nat.{lt_of_mul-lt-mul_right}
use native.Mathlib.Omega.{arith}
use lib.Pow.{pow-add, pow_pos, pow_mono}
use lib.Ieee.Digits.{back}
use Rattle.ieee_square_root.proofs.RoundedRoot.{square_le, square-lt, square-of-scaled}
use Rattle.ieee_square_root.proofs.RoundedRoot.{RoundsTo, to-lower, to-upper, rounds-ge, rounds-below-middle}

-- x is a number of p digits at most, times a power of 2
pub record OfDigits (p x : ℕ) : Type 0 where
  pub significand : ℕ
  pub exponent : ℕ
  pub few : significand < 2 ^ p
  pub is : x ≡ significand * 2 ^ exponent

-- ---- multiples of 2 ^ k

-- where m has p digits at most and m * 2 ^ j is 2 ^ (p - 1) * 2 ^ k or more, j is k or more
exponent-reaches : (p m k j : ℕ) → 0 < p → m < 2 ^ p → 2 ^ (p - 1) * 2 ^ k ≤ m * 2 ^ j → k ≤ j
exponent-reaches p m k j p-pos few large =
    le_of_suc-le-suc (lt_of_not-le (λ (l : suc j ≤ k). not-le_of_lt (too_small l) large))
  where
    shifted : (p j k : ℕ) → 0 < p → j < k → p + j ≤ p - 1 + k
    shifted p j k h l = omega arith

    too_small : j < k → m * 2 ^ j < 2 ^ (p - 1) * 2 ^ k
    too_small l =
        lt_of_lt_of_le (mul-lt-mul_of_pos_right few (pow_pos j))
        (le_trans (le_of_eq (sym (pow-add 2 p j)))
        (le_trans (pow_mono (shifted p j k p-pos l)) (le_of_eq (pow-add 2 (p - 1) k))))

-- so it is a multiple of 2 ^ k; where k is 0, any number is
multiple : (p k x : ℕ) → 0 < p → OfDigits p x → (0 < k → 2 ^ (p - 1) * 2 ^ k ≤ x) → (c : ℕ) × (x ≡ c * 2 ^ k)
multiple p zero x p-pos w large = (x, sym (mul-one x))
multiple p (suc k) x p-pos w large =
    let m = w.significand in
    let j = w.exponent in
    let reaches : 2 ^ (p - 1) * 2 ^ suc k ≤ m * 2 ^ j = le_trans (large (zero-lt-suc k)) (le_of_eq w.is) in
    let shift : j - suc k + suc k ≡ j = back j (suc k) (exponent-reaches p m (suc k) j p-pos w.few reaches) in
    (m * 2 ^ (j - suc k), w.is ∙ ap (λ (i : ℕ). m * 2 ^ i) (sym shift) ∙ split m (j - suc k) (suc k))
  where
    split : (m i k : ℕ) → m * 2 ^ (i + k) ≡ m * 2 ^ i * 2 ^ k
    split m i k = ap (λ (y : ℕ). m * y) (pow-add 2 i k) ∙ sym (mul_assoc m (2 ^ i) (2 ^ k))

-- ---- the next values, where q has all p digits if any was dropped

module _ (p k q : ℕ) (p-pos : 0 < p) (full : 0 < k → 2 ^ (p - 1) ≤ q) where
  next-above : (r x : ℕ) → OfDigits p x → q ≤ r → r * 2 ^ k < x → suc r * 2 ^ k ≤ x
  next-above r x w ge l =
      let large : 0 < k → 2 ^ (p - 1) * 2 ^ k ≤ x =
      λ k-pos. le_trans (mul-le-mul_right (2 ^ k) (le_trans (full k-pos) ge)) (le_of_lt l) in
      let c = multiple p k x p-pos w large in
      le_trans (mul-le-mul_right (2 ^ k) (lt_of_mul-lt-mul_right (2 ^ k) (lt_of_lt_of_le l (le_of_eq c.1))))
      (le_of_eq (sym c.1))

  next-below : (x : ℕ) → OfDigits p x → x < suc q * 2 ^ k → x ≤ q * 2 ^ k
  next-below x w l =
      le_of_suc-le-suc (lt_of_not-le (λ (g : q * 2 ^ k < x). not-le_of_lt l (next-above q x w (le_refl q) g)))

  -- ---- they are farther from the root: it lies on the rounded one's side of the middle between the two

  module _ (n d : ℕ) (d-pos : 0 < d) where
    pub farther-above : {r : ℕ}
        → n < (q + 1) * (q + 1) * (d * 4 ^ k)
        → RoundsTo n (d * 4 ^ k) q r
        → (x : ℕ)
        → OfDigits p x
        → r * 2 ^ k < x
        → n * 4 < (r * 2 ^ k + x) * (r * 2 ^ k + x) * d
    farther-above {r} upper rounds x w l =
        let next : (2 * r + 1) * 2 ^ k ≤ r * 2 ^ k + x =
        le_trans (le_of_eq (ap (λ (y : ℕ). y * 2 ^ k) (halves r) ∙ add-mul r (suc r) (2 ^ k)))
        (add-le-add (le_refl (r * 2 ^ k)) (next-above r x w (rounds-ge rounds) l)) in
        lt_of_lt_of_le (rounds-below-middle upper rounds)
        (le_trans (le_of_eq (sym (square-of-scaled (2 * r + 1) k d))) (mul-le-mul_right d (square_le next)))
      where
        halves : (r : ℕ) → 2 * r + 1 ≡ r + suc r
        halves r = omega arith

    -- rounded down, r is q, and the root lies above q itself; rounded up, r is q + 1, and x is q * 2 ^ k at most
    pub farther-below : {r : ℕ}
        → q * q * (d * 4 ^ k) ≤ n
        → RoundsTo n (d * 4 ^ k) q r
        → (x : ℕ)
        → OfDigits p x
        → x < r * 2 ^ k
        → (r * 2 ^ k + x) * (r * 2 ^ k + x) * d < n * 4
    farther-below lower (to-lower h) x w l =
        let next : q * 2 ^ k + x < (q + q) * 2 ^ k =
        lt_of_lt_of_le (add-lt-add_of_le_of_lt (le_refl (q * 2 ^ k)) l) (le_of_eq (sym (add-mul q q (2 ^ k)))) in
        lt_of_lt_of_le (mul-lt-mul_of_pos_right (square-lt (q * 2 ^ k + x) ((q + q) * 2 ^ k) next) d-pos)
        (le_trans (le_of_eq (square-of-scaled (q + q) k d ∙ four-squares (d * 4 ^ k))) (mul-le-mul_right 4 lower))
      where
        twice : (q : ℕ) → q + q ≡ q * 2
        twice q = omega arith

        four-squares : (u : ℕ) → (q + q) * (q + q) * u ≡ q * q * u * 4
        four-squares u =
            ap (λ (y : ℕ). y * y * u) (twice q)
            ∙ ap (λ (y : ℕ). y * u) (mul-mul-mul_comm q 2 q 2)
            ∙ mul_right_comm (q * q) 4 u
    farther-below lower (to-upper h) x w l =
        let next : suc q * 2 ^ k + x ≤ (2 * q + 1) * 2 ^ k =
        le_trans (add-le-add (le_refl (suc q * 2 ^ k)) (next-below x w l))
        (le_of_eq (sym (add-mul (suc q) q (2 ^ k)) ∙ ap (λ (y : ℕ). y * 2 ^ k) (halves q))) in
        lt_of_le_of_lt (mul-le-mul_right d (square_le next))
        (lt_of_le_of_lt (le_of_eq (square-of-scaled (2 * q + 1) k d)) h)
      where
        halves : (q : ℕ) → suc q + q ≡ 2 * q + 1
        halves q = omega arith
