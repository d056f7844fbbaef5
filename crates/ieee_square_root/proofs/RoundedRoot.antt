-- The whole numbers in `round_root`: how many digits of the root are dropped, the digits that are kept, and these
-- rounded by the remainder. The root is that of n / d, and p digits are kept. In the text of `round_root`, k is
-- `dropped_digits`, u is `scaled_divisor`, q is `truncated_root`, and what is handed to `units` is `rounded_root`.
-- Nothing here is about floats. Assumes nothing.
use mathlib.Core.Path.{◌≡◌, sym, ap, ◌∙◌, subst}
use mathlib.Core.Bool.{not}
use Prim.Native.Nat.{ℕ, suc, ◌+◌, ◌-◌, ◌*◌, ◌/◌, ◌^◌, ◌≤◌, ◌<◌}
use Prim.Native.Nat.{compare, Ordering}
use native.Mathlib.Nat.{le_refl, le-suc, le_trans, le_of_eq, le_of_lt, lt_of_lt_of_le, lt_of_le_of_lt, lt_of_not-le}
use native.Mathlib.Nat.{not-le_of_lt, mul_assoc, mul_comm, mul_right_comm, mul-mul-mul_comm, mul-pos, zero-lt-suc}
use native.Mathlib.Nat.{mul-le-mul, mul-le-mul_right, mul-lt-mul_of_pos_right, lt_of_mul-lt-mul_right}
use native.Mathlib.Nat.{le-div_iff_mul-le, div-lt_iff_lt-mul}
use native.Mathlib.Numerals.{add-one}
use native.Mathlib.Omega.{arith}
use lib.Arith.{lt_of_le-ne}
use lib.Dec.{T, is_le, compare_is_eq, leb→le, nleb→lt, eqb, eqb→eq, eqb_refl}
use lib.Pow.{pow-add, pow_pos, pow_mono}
use lib.Ieee.{size, nearest}
use lib.Ieee.Digits.{size-lt, size_reaches}
use Rattle.ieee_square_root.specs.IntegerRoot.{isqrt, isqrt-is, four-pow}

-- ---- squares

pub square_le : {a b : ℕ} → a ≤ b → a * a ≤ b * b
square_le h = mul-le-mul h h

pub square-lt : (a b : ℕ) → a < b → a * a < b * b
square-lt a b h =
    lt_of_le_of_lt (mul-le-mul_right a (le_of_lt h))
    (lt_of_le_of_lt (le_of_eq (mul_comm b a)) (mul-lt-mul_of_pos_right h (positive a b h)))
  where
    positive : (a b : ℕ) → a < b → 0 < b
    positive a b h = omega arith

pub lt-of-square-lt : (a b : ℕ) → a * a < b * b → a < b
lt-of-square-lt a b h = lt_of_not-le (λ (g : b ≤ a). not-le_of_lt h (square_le g))

pub four-pow-pos : (k : ℕ) → 0 < 4 ^ k
four-pow-pos k = subst (λ (x : ℕ). 0 < x) (sym (four-pow k)) (mul-pos (pow_pos k) (pow_pos k))

-- a multiple of 2 ^ k, squared: in multiples of 4 ^ k it is the square of x
pub square-of-scaled : (x k d : ℕ) → x * 2 ^ k * (x * 2 ^ k) * d ≡ x * x * (d * 4 ^ k)
square-of-scaled x k d =
    ap (λ (y : ℕ). y * d) (mul-mul-mul_comm x (2 ^ k) x (2 ^ k) ∙ ap (λ (y : ℕ). x * x * y) (sym (four-pow k)))
    ∙ mul_assoc (x * x) (4 ^ k) d
    ∙ ap (λ (y : ℕ). x * x * y) (mul_comm (4 ^ k) d)

-- ---- the digits kept

-- how many digits the root's whole part has beyond the p that are kept
abbrev pub dropped_digits : ℕ → ℕ → ℕ → ℕ
dropped_digits p n d = size (isqrt (n / d)) - p

-- what n is divided by so that its root comes out in units of 2 ^ k, for the k digits dropped
abbrev pub scaled_divisor : ℕ → ℕ → ℕ → ℕ
scaled_divisor p n d = d * 4 ^ dropped_digits p n d

-- the digits kept: the whole part of the root in those units
abbrev pub truncated_root : ℕ → ℕ → ℕ → ℕ
truncated_root p n d = isqrt (n / scaled_divisor p n d)

module _ (p n d : ℕ) (d-pos : 0 < d) where
  scaled_divisor-pos : 0 < scaled_divisor p n d
  scaled_divisor-pos = mul-pos d-pos (four-pow-pos (dropped_digits p n d))

  -- it is the integer root: its square is at most n, in multiples of the divisor, and the next number's is more
  pub truncated-lower : truncated_root p n d * truncated_root p n d * scaled_divisor p n d ≤ n
  truncated-lower = (le-div_iff_mul-le scaled_divisor-pos).0 (isqrt-is (n / scaled_divisor p n d)).lower

  pub truncated-upper : n < (truncated_root p n d + 1) * (truncated_root p n d + 1) * scaled_divisor p n d
  truncated-upper = (div-lt_iff_lt-mul scaled_divisor-pos).0 (isqrt-is (n / scaled_divisor p n d)).upper

  -- it has p digits at most
  pub truncated-lt : truncated_root p n d < 2 ^ p
  truncated-lt =
      let root = isqrt (n / d) in
      let k = dropped_digits p n d in
      let root-lt : root + 1 ≤ 2 ^ p * 2 ^ k =
      le_trans (le_of_eq (add-one root))
      (lt_of_lt_of_le (size-lt root) (le_trans (pow_mono (covered (size root) p)) (le_of_eq (pow-add 2 p k)))) in
      let n-lt : n < 2 ^ p * 2 ^ k * (2 ^ p * 2 ^ k) * d =
      (div-lt_iff_lt-mul d-pos).0 (lt_of_lt_of_le (isqrt-is (n / d)).upper (square_le root-lt)) in
      lt-of-square-lt (truncated_root p n d) (2 ^ p)
      (lt_of_mul-lt-mul_right (scaled_divisor p n d)
      (lt_of_le_of_lt truncated-lower (lt_of_lt_of_le n-lt (le_of_eq (square-of-scaled (2 ^ p) k d)))))
    where
      covered : (z p : ℕ) → z ≤ p + (z - p)
      covered z p = omega arith

  -- where digits are dropped, it has all p digits
  pub truncated-full : 0 < p → 0 < dropped_digits p n d → 2 ^ (p - 1) ≤ truncated_root p n d
  truncated-full p-pos k-pos =
      let root = isqrt (n / d) in
      let k = dropped_digits p n d in
      let leading = 2 ^ (p - 1) in
      let root_ge : leading * 2 ^ k ≤ root =
      le_trans (le_of_eq (sym (pow-add 2 (p - 1) k)))
      (size_reaches root (p - 1 + k) (last-digit (size root) p p-pos k-pos)) in
      let n-ge : leading * leading * scaled_divisor p n d ≤ n =
      le_trans (le_of_eq (sym (square-of-scaled leading k d)))
      ((le-div_iff_mul-le d-pos).0 (le_trans (square_le root_ge) (isqrt-is (n / d)).lower)) in
      le-of-lt-next leading (truncated_root p n d)
      (lt-of-square-lt leading (truncated_root p n d + 1)
      (lt_of_mul-lt-mul_right (scaled_divisor p n d) (lt_of_le_of_lt n-ge truncated-upper)))
    where
      last-digit : (z p : ℕ) → 0 < p → 0 < z - p → p - 1 + (z - p) < z
      last-digit z p h k = omega arith

      le-of-lt-next : (a b : ℕ) → a < b + 1 → a ≤ b
      le-of-lt-next a b h = omega arith

-- ---- rounding by the remainder

-- the digits kept, or the next number up where the root lies above the middle between the two
abbrev pub rounded_root : ℕ → ℕ → ℕ → ℕ
rounded_root p n d =
    let u = scaled_divisor p n d in
    let q = truncated_root p n d in
    nearest q (compare (n * 4) ((2 * q + 1) * (2 * q + 1) * u))

-- the root of n / u lies in the middle between q and q + 1; said by squares, as in `round_root`
abbrev pub Tie : ℕ → ℕ → ℕ → Type 0
Tie n u q = n * 4 ≡ (2 * q + 1) * (2 * q + 1) * u

-- the root of n / u lies nearer to q than to q + 1, or the other way round
pub data RoundsTo (n u q : ℕ) : ℕ → Type 0 where
  to-lower : n * 4 < (2 * q + 1) * (2 * q + 1) * u → RoundsTo n u q q
  to-upper : (2 * q + 1) * (2 * q + 1) * u < n * 4 → RoundsTo n u q (suc q)

-- what the result of a comparison says of the two numbers
abbrev Compared : Ordering → ℕ → ℕ → Type 0
Compared Ordering.lt a b = a < b
Compared Ordering.eq a b = a ≡ b
Compared Ordering.gt a b = b < a

compare-says : (a b : ℕ) → Compared (compare a b) a b
compare-says a b =
    by_tests (compare a b) (leb→le a b) (nleb→lt a b) (eqb→eq a b)
    (λ (e : a ≡ b). subst (λ (x : ℕ). T (eqb a x)) e (eqb_refl a))
  where
    by_tests : (o : Ordering)
        → (T (is_le o) → a ≤ b)
        → (T (not (is_le o)) → b < a)
        → (T (compare_is_eq o) → a ≡ b)
        → (a ≡ b → T (compare_is_eq o))
        → Compared o a b
    by_tests Ordering.lt le gt eq ne = lt_of_le-ne (le tt) ne
    by_tests Ordering.eq le gt eq ne = eq tt
    by_tests Ordering.gt le gt eq ne = gt tt

-- where there is no tie, `nearest` gives the nearer of the two
pub nearest-rounds : (n u q : ℕ)
    → ¬ Tie n u q
    → RoundsTo n u q (nearest q (compare (n * 4) ((2 * q + 1) * (2 * q + 1) * u)))
nearest-rounds n u q not-tie =
    by_order (compare (n * 4) ((2 * q + 1) * (2 * q + 1) * u)) (compare-says (n * 4) ((2 * q + 1) * (2 * q + 1) * u))
  where
    by_order : (o : Ordering) → Compared o (n * 4) ((2 * q + 1) * (2 * q + 1) * u) → RoundsTo n u q (nearest q o)
    by_order Ordering.lt l = to-lower l
    by_order Ordering.eq e = absurd (not-tie e)
    by_order Ordering.gt g = to-upper g

pub rounds-ge : {n u q r : ℕ} → RoundsTo n u q r → q ≤ r
rounds-ge {q = q} (to-lower l) = le_refl q
rounds-ge {q = q} (to-upper l) = le-suc q

-- in both cases the root lies below the middle between r and r + 1
pub rounds-below-middle : {n u q r : ℕ}
    → n < (q + 1) * (q + 1) * u
    → RoundsTo n u q r
    → n * 4 < (2 * r + 1) * (2 * r + 1) * u
rounds-below-middle h (to-lower l) = l
rounds-below-middle {n} {u} {q} h (to-upper l) =
    lt_of_lt_of_le (mul-lt-mul_of_pos_right h (zero-lt-suc 3))
    (le_trans
    (le_of_eq
    (mul_right_comm ((q + 1) * (q + 1)) u 4 ∙ ap (λ (x : ℕ). x * u) (sym (mul-mul-mul_comm (q + 1) 2 (q + 1) 2))))
    (mul-le-mul_right u (square_le (doubled q))))
  where
    doubled : (q : ℕ) → (q + 1) * 2 ≤ 2 * suc q + 1
    doubled q = omega arith
