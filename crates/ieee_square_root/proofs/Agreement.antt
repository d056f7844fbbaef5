-- The digits that the code finds are those of the definition, for any format. Assumes nothing.
-- Where num / den is n * 4 ^ k in units of the square of the format's smallest value, and n has twice the format's digits, `round_root`
-- drops k digits and rounds the root of n to the r with (r - 1) * r < n ≤ r * (r + 1).
use mathlib.Core.Path.{◌≡◌, sym, ap, ◌∙◌, subst}
use mathlib.Core.Bool.{Bool, true, false, cond}
use Prim.Native.Nat.{ℕ, zero, suc, ◌+◌, ◌-◌, ◌*◌, ◌/◌, ◌^◌, ◌≤◌, ◌<◌, zero-le, compare}
use native.Mathlib.Nat.{le_trans, le_of_eq, le_of_lt, le_antisymm, lt_of_lt_of_le, lt_of_le_of_lt, lt_of_not-le, not-le_of_lt}
use native.Mathlib.Nat.{lt_irrefl, zero-lt-suc, mul-pos, mul_assoc, mul_comm, mul_right_comm, mul-mul-mul_comm, mul-add, add-mul}
use native.Mathlib.Nat.{mul-one, zero-mul, mul-le-mul, mul-le-mul_right, mul-lt-mul_of_pos_right, mul-div_cancel}
use native.Mathlib.Nat.{lt_of_mul-lt-mul_right, eq_of_mul-eq-mul_right}
use native.Mathlib.Numerals.{add-one}
use native.Mathlib.Omega.{arith}
use lib.Pow.{pow-add, pow_mono}
use lib.Ieee.{Float, nan, inf, fin, Format, prec, low, up, down, size, nearest, units}
use lib.Ieee.Digits.{size-lt, size-le}
use lib.Ieee.Fits.{two, two-le_pos, down_pos}
use lib.Ieee.Exact.{HasValue}
use Rattle.ieee_square_root.specs.IntegerRoot.{isqrt, IsIntegerRoot, isqrt-is, four-pow}
use Rattle.ieee_square_root.specs.SquareRoot.{round_root, square_root}
use Rattle.ieee_square_root.proofs.RoundedRoot.{four-pow-pos, lt-of-square-lt, dropped_digits, rounded_root}
use Rattle.ieee_square_root.proofs.RoundedRoot.{Tie, RoundsTo, to-lower, to-upper, nearest-rounds}
use Rattle.ieee_square_root.proofs.NearestRoot.{round_root-is}

-- ---- how many digits the root has

-- 4 ^ a * 4 ^ k is the square of 2 ^ (a + k)
square-of-power : (a k : ℕ) → 4 ^ a * 4 ^ k ≡ 2 ^ (a + k) * 2 ^ (a + k)
square-of-power a k =
    (λ i. four-pow a i * four-pow k i)
    ∙ mul-mul-mul_comm (2 ^ a) (2 ^ a) (2 ^ k) (2 ^ k)
    ∙ ap (λ (x : ℕ). x * x) (sym (pow-add 2 a k))

root-size : (p n k : ℕ) → 0 < p → 4 ^ (p - 1) ≤ n → n < 4 ^ p → size (isqrt (n * 4 ^ k)) ≡ p + k
root-size p n k p-pos low high = le_antisymm at_most at_least
  where
    root : ℕ
    root = isqrt (n * 4 ^ k)

    is : IsIntegerRoot (n * 4 ^ k) root
    is = isqrt-is (n * 4 ^ k)

    at_most : size root ≤ p + k
    at_most =
        size-le root (p + k)
        (lt-of-square-lt root (2 ^ (p + k))
        (lt_of_le_of_lt is.lower
        (lt_of_lt_of_le (mul-lt-mul_of_pos_right high (four-pow-pos k)) (le_of_eq (square-of-power p k)))))

    le-of-lt-next : {a b : ℕ} → a < b + 1 → a ≤ b
    le-of-lt-next h = omega arith

    leading : 2 ^ (p - 1 + k) ≤ root
    leading =
        le-of-lt-next
        (lt-of-square-lt (2 ^ (p - 1 + k)) (root + 1)
        (lt_of_le_of_lt (le_trans (le_of_eq (sym (square-of-power (p - 1) k))) (mul-le-mul_right (4 ^ k) low)) is.upper))

    next : (p k : ℕ) → 0 < p → p + k ≡ suc (p - 1 + k)
    next p k h = omega arith

    at_least : p + k ≤ size root
    at_least =
        le_trans (le_of_eq (next p k p-pos))
        (lt_of_not-le (λ (g : size root ≤ p - 1 + k). not-le_of_lt (lt_of_lt_of_le (size-lt root) (pow_mono g)) leading))

-- ---- the number between two products of neighbours is the only one

between-products : (n r s : ℕ) → (r - 1) * r < n → n ≤ r * (r + 1) → (s - 1) * s < n → n ≤ s * (s + 1) → r ≡ s
between-products n r s r-lower r-upper s-lower s-upper = le_antisymm (not-above r s r-lower s-upper) (not-above s r s-lower r-upper)
  where
    not-above : (a b : ℕ) → (a - 1) * a < n → n ≤ b * (b + 1) → a ≤ b
    not-above a b lower upper =
        le-of-lt-next
        (lt_of_not-le (λ (g : b + 1 ≤ a). lt_irrefl n (lt_of_le_of_lt upper (lt_of_le_of_lt (mul-le-mul (before g) g) lower))))
      where
        before : b + 1 ≤ a → b ≤ a - 1
        before h = omega arith

        le-of-lt-next : a < b + 1 → a ≤ b
        le-of-lt-next h = omega arith

-- ---- rounding the root of n

middle-square : (q : ℕ) → (2 * q + 1) * (2 * q + 1) ≡ 4 * (q * q + q) + 1
middle-square q =
    add-mul (2 * q) 1 (2 * q + 1)
    ∙ ap (λ (x : ℕ). x + 1 * (2 * q + 1)) (mul-add (2 * q) (2 * q) 1)
    ∙ collect (2 * q * (2 * q)) (q * q) (mul-mul-mul_comm 2 q 2 q) q
  where
    collect : (a b : ℕ) → a ≡ 4 * b → (q : ℕ) → a + 2 * q * 1 + 1 * (2 * q + 1) ≡ 4 * (b + q) + 1
    collect a b h q = omega arith

product-with-next : (q : ℕ) → q * (q + 1) ≡ q * q + q
product-with-next q = mul-add q q 1 ∙ ap (λ (x : ℕ). q * q + x) (mul-one q)

module _ (n u r : ℕ) (u-pos : 0 < u) (lower : (r - 1) * r < n) (upper : n ≤ r * (r + 1)) where
  -- four times a whole number is no odd square
  no_tie : ¬ Tie (n * u) u (isqrt n)
  no_tie h =
      let q = isqrt n in
      odd n (q * q + q)
      (eq_of_mul-eq-mul_right u u-pos (n * 4) ((2 * q + 1) * (2 * q + 1)) (mul_right_comm n 4 u ∙ h) ∙ middle-square q)
    where
      odd : (n x : ℕ) → n * 4 ≡ 4 * x + 1 → ⊥
      odd n x h = omega arith

  rounds-is : {z : ℕ} → RoundsTo (n * u) u (isqrt n) z → z ≡ r
  rounds-is (to-lower h) =
      between-products n q r (before q (isqrt-is n).lower) (above n q (middle-square q) (product-with-next q) below) lower upper
    where
      q : ℕ
      q = isqrt n

      below : n * 4 < (2 * q + 1) * (2 * q + 1)
      below = lt_of_mul-lt-mul_right u (lt_of_le_of_lt (le_of_eq (mul_right_comm n 4 u)) h)

      above : (n q : ℕ) {m : ℕ} → m ≡ 4 * (q * q + q) + 1 → q * (q + 1) ≡ q * q + q → n * 4 < m → n ≤ q * (q + 1)
      above n q e f h = omega arith

      before : (q : ℕ) → q * q ≤ n → (q - 1) * q < n
      before zero l = lt_of_le_of_lt zero-le lower
      before (suc q) l = lt_of_lt_of_le (mul-lt-mul_of_pos_right (less q) (zero-lt-suc q)) l
        where
          less : (q : ℕ) → suc q - 1 < suc q
          less q = omega arith
  rounds-is (to-upper h) =
      between-products n (suc q) r (before n q (middle-square q) (product-with-next q) above) (after q (isqrt-is n).upper) lower upper
    where
      q : ℕ
      q = isqrt n

      above : (2 * q + 1) * (2 * q + 1) < n * 4
      above = lt_of_mul-lt-mul_right u (lt_of_lt_of_le h (le_of_eq (mul_right_comm n u 4)))

      before : (n q : ℕ) {m : ℕ} → m ≡ 4 * (q * q + q) + 1 → q * (q + 1) ≡ q * q + q → m < n * 4 → (suc q - 1) * suc q < n
      before n q e f h = lt_of_le_of_lt (le_of_eq (λ i. pred-is q i * sym (add-one q) i)) (omega arith)
        where
          pred-is : (q : ℕ) → suc q - 1 ≡ q
          pred-is q = omega arith

      after : (q : ℕ) → n < (q + 1) * (q + 1) → n ≤ suc q * (suc q + 1)
      after q l = le_trans (le_of_lt l) (mul-le-mul (same q) (more q))
        where
          same : (q : ℕ) → q + 1 ≤ suc q
          same q = omega arith

          more : (q : ℕ) → q + 1 ≤ suc q + 1
          more q = omega arith

  nearest-is : nearest (isqrt n) (compare (n * u * 4) ((2 * isqrt n + 1) * (2 * isqrt n + 1) * u)) ≡ r
  nearest-is = rounds-is (nearest-rounds (n * u) u (isqrt n) no_tie)

-- ---- the definition, by the digits

module _ (f : Format) (num den n k r : ℕ)
    (den_pos : 0 < den)
    (value : num * 4 ^ low f ≡ n * 4 ^ k * den)
    (low_end : 4 ^ (prec f - 1) ≤ n)
    (high_end : n < 4 ^ prec f)
    (lower : (r - 1) * r < n)
    (upper : n ≤ r * (r + 1))
  where
    -- k digits are dropped
    dropped-is : dropped_digits (prec f) (num * 4 ^ low f) den ≡ k
    dropped-is =
        ap (λ (x : ℕ). size (isqrt (x / den)) - prec f) value
        ∙ ap (λ (x : ℕ). size (isqrt x) - prec f) (mul-div_cancel (n * 4 ^ k) den_pos)
        ∙ ap (λ (x : ℕ). x - prec f) (root-size (prec f) n k (two-le_pos (prec f) (two f)) low_end high_end)
        ∙ left (prec f) k
      where
        left : (p k : ℕ) → p + k - p ≡ k
        left p k = omega arith

    -- r is left
    rounded-is : rounded_root (prec f) (num * 4 ^ low f) den ≡ r
    rounded-is =
        ap (λ (d : ℕ). at (num * 4 ^ low f) (den * 4 ^ d)) dropped-is
        ∙ ap (λ (x : ℕ). at x (den * 4 ^ k)) (value ∙ mul_assoc n (4 ^ k) den ∙ ap (λ (x : ℕ). n * x) (mul_comm (4 ^ k) den))
        ∙ ap (λ (x : ℕ). nearest (isqrt x) (compare (n * u * 4) ((2 * isqrt x + 1) * (2 * isqrt x + 1) * u))) (mul-div_cancel n u-pos)
        ∙ nearest-is n u r u-pos lower upper
      where
        u : ℕ
        u = den * 4 ^ k

        u-pos : 0 < u
        u-pos = mul-pos den_pos (four-pow-pos k)

        at : ℕ → ℕ → ℕ
        at x w = let q = isqrt (x / w) in nearest q (compare (x * 4) ((2 * q + 1) * (2 * q + 1) * w))

    pub round_root-by-digits : round_root f num den ≡ units f false r k
    round_root-by-digits = round_root-is f num den ∙ (λ i. units f false (rounded-is i) (dropped-is i))

-- the square root of a value above zero that is m of the format's smallest values
pub square_root-by-digits : (f : Format) (x : Float) (m n k r : ℕ)
    → HasValue x false m (2 ^ low f)
    → 0 < m
    → m * 2 ^ low f ≡ n * 4 ^ k
    → 4 ^ (prec f - 1) ≤ n
    → n < 4 ^ prec f
    → (r - 1) * r < n
    → n ≤ r * (r + 1)
    → square_root f x ≡ units f false r k
unfolding square_root
square_root-by-digits f nan m n k r v M value lo hi lower upper = absurd v
square_root-by-digits f (inf s) m n k r v M value lo hi lower upper = absurd v
square_root-by-digits f (fin s zero e) m n k r v M value lo hi lower upper =
    absurd (lt_irrefl 0 (lt_of_lt_of_le (mul-pos M (down_pos e)) (le_of_eq (sym v.1 ∙ zero-times (up e) (2 ^ low f)))))
  where
    zero-times : (a b : ℕ) → 0 * a * b ≡ 0
    zero-times a b = ap (λ (x : ℕ). x * b) (zero-mul a) ∙ zero-mul b
square_root-by-digits f (fin true (suc d) e) m n k r v M value lo hi lower upper = absurd (true-not-false v.0)
  where
    true-not-false : true ≡ false → ⊥
    true-not-false h = subst (λ (b : Bool). cond b Unit ⊥) h tt
square_root-by-digits f (fin false (suc d) e) m n k r v M value lo hi lower upper =
    round_root-by-digits f (suc d * up e) (down e) n k r (down_pos e) in-units lo hi lower upper
  where
    in-units : suc d * up e * 4 ^ low f ≡ n * 4 ^ k * down e
    in-units =
        ap (λ (x : ℕ). suc d * up e * x) (four-pow (low f))
        ∙ sym (mul_assoc (suc d * up e) (2 ^ low f) (2 ^ low f))
        ∙ ap (λ (x : ℕ). x * 2 ^ low f) v.1
        ∙ mul_right_comm m (down e) (2 ^ low f)
        ∙ ap (λ (x : ℕ). x * down e) value
