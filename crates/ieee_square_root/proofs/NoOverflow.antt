-- The rounded root does not overflow: in units of the format's smallest value, 2 ^ -l, it is below 2 ^ (l + E), where
-- the format's infinities begin. In those units the root's square is n / d. It is below 2 ^ E * 4 ^ l, and 4 times that
-- is at most the square of 2 ^ (l + E). So twice the truncated root is below 2 ^ (l + E), and rounding at most doubles
-- it. Nothing here is about floats. Assumes nothing.
use mathlib.Core.Path.{sym, ap, ◌∙◌}
use Prim.Native.Nat.{ℕ, zero, suc, ◌+◌, ◌-◌, ◌*◌, ◌^◌, ◌≤◌, ◌<◌, compare}
use native.Mathlib.Nat.{le_trans, le_of_eq, lt_irrefl, lt_of_lt_of_le, lt_of_le_of_lt, lt_of_mul-lt-mul_right}
use native.Mathlib.Nat.{mul-one, mul_assoc, mul_comm, mul_right_comm, mul-mul-mul_comm, mul-le-mul_right}
use native.Mathlib.Nat.{mul-lt-mul_of_pos_right, zero-lt-suc}
use native.Mathlib.Omega.{arith}
use lib.Pow.{pow-add, pow_pos, pow_mono, pow-lt}
use lib.Ieee.Fits.{nearest-le}
use Rattle.ieee_square_root.specs.IntegerRoot.{four-pow}
use Rattle.ieee_square_root.proofs.RoundedRoot.{lt-of-square-lt, square-of-scaled, dropped_digits, scaled_divisor}
use Rattle.ieee_square_root.proofs.RoundedRoot.{truncated_root, truncated-lower, truncated-full, rounded_root}

-- rounding q up at most doubles it, but at q = 0, where no digit is dropped
rounded-below : (q k r top : ℕ)
    → r ≤ suc q
    → 2 * (q * 2 ^ k) < top
    → (0 < k → 0 < q)
    → 1 < top
    → r * 2 ^ k < top
rounded-below zero zero r top next twice full one = lt_of_le_of_lt (le_trans (le_of_eq (mul-one r)) next) one
rounded-below zero (suc k) r top next twice full one = absurd (lt_irrefl 0 (full (zero-lt-suc k)))
rounded-below (suc q) k r top next twice full one =
    lt_of_le_of_lt
    (le_trans (mul-le-mul_right (2 ^ k) (le_trans next (doubles q))) (le_of_eq (mul_assoc 2 (suc q) (2 ^ k))))
    twice
  where
    doubles : (q : ℕ) → suc (suc q) ≤ 2 * suc q
    doubles q = omega arith

-- 4 times 2 ^ E * 4 ^ l is at most the square of 2 ^ (l + E)
square-of-overflow : (l E : ℕ) → 2 ≤ E → 2 ^ E * 4 ^ l * 4 ≤ 2 ^ (l + E) * 2 ^ (l + E)
square-of-overflow l E h =
    le_trans (le_of_eq (mul_right_comm (2 ^ E) (4 ^ l) 4 ∙ ap (λ (x : ℕ). x * 4 ^ l) (sym (pow-add 2 E 2))))
    (le_trans (mul-le-mul_right (4 ^ l) (pow_mono (exponents E h)))
    (le_of_eq
    (ap (λ (x : ℕ). x * 4 ^ l) (pow-add 2 E E)
    ∙ ap (λ (x : ℕ). 2 ^ E * 2 ^ E * x) (four-pow l)
    ∙ mul-mul-mul_comm (2 ^ E) (2 ^ E) (2 ^ l) (2 ^ l)
    ∙ ap (λ (x : ℕ). x * x) (mul_comm (2 ^ E) (2 ^ l) ∙ sym (pow-add 2 l E)))))
  where
    exponents : (E : ℕ) → 2 ≤ E → E + 2 ≤ E + E
    exponents E h = omega arith

module _ (p n d l E : ℕ) (p-pos : 0 < p) (d-pos : 0 < d) (wide : 2 ≤ E) (small : n < 2 ^ E * 4 ^ l * d) where
  twice-truncated-below : 2 * (truncated_root p n d * 2 ^ dropped_digits p n d) < 2 ^ (l + E)
  twice-truncated-below =
      let k = dropped_digits p n d in
      let q = truncated_root p n d in
      let square : q * 2 ^ k * (q * 2 ^ k) < 2 ^ E * 4 ^ l =
      lt_of_mul-lt-mul_right d
      (lt_of_le_of_lt (le_trans (le_of_eq (square-of-scaled q k d)) (truncated-lower p n d d-pos)) small) in
      lt-of-square-lt (2 * (q * 2 ^ k)) (2 ^ (l + E))
      (lt_of_le_of_lt
      (le_of_eq (mul-mul-mul_comm 2 (q * 2 ^ k) 2 (q * 2 ^ k) ∙ mul_comm 4 (q * 2 ^ k * (q * 2 ^ k))))
      (lt_of_lt_of_le (mul-lt-mul_of_pos_right square (zero-lt-suc 3)) (square-of-overflow l E wide)))

  pub no_overflow : rounded_root p n d * 2 ^ dropped_digits p n d < 2 ^ (l + E)
  no_overflow =
      let k = dropped_digits p n d in
      let q = truncated_root p n d in
      rounded-below q k (rounded_root p n d) (2 ^ (l + E))
      (nearest-le q (compare (n * 4) ((2 * q + 1) * (2 * q + 1) * scaled_divisor p n d)))
      twice-truncated-below
      (λ (k-pos : 0 < k). lt_of_lt_of_le (pow_pos (p - 1)) (truncated-full p n d d-pos p-pos k-pos))
      (pow-lt (positive l E wide))
    where
      positive : (l E : ℕ) → 2 ≤ E → 0 < l + E
      positive l E h = omega arith
