-- The digits of a root: the product r * (r + 1) in parts of 26 digits, and how it compares. Assumes nothing.
use mathlib.Core.Path.{◌≡◌, ap, ◌∙◌}
use mathlib.Core.Bool.{Bool, true, false, not}
use Prim.Native.Nat.{ℕ, ◌+◌, ◌*◌, ◌/◌, ◌%◌, ◌^◌, ◌≤◌, ◌<◌}
use native.Mathlib.Nat.{mul-mul-mul_comm, mul_comm, mul_assoc, mul-add, add-mul, mul-one}
use native.Mathlib.Omega.{arith}
use lib.Dec.{T, ltb, ltb→lt, nltb→le}
use borrow.Author.Tests.{lt-ltb, le-ltb}

-- ---- the product r * (r + 1)

square-of-sum : (x b : ℕ) → (x + b) * (x + b) ≡ x * x + 2 * (x * b) + b * b
square-of-sum x b = rw (add-mul, mul-add x x b, mul-add b x b) (omega (arith, mul_comm b x))

pub square-in-parts : (a b : ℕ) → (67108864 * a + b) * (67108864 * a + b) ≡ 4503599627370496 * (a * a) + 67108864 * (2 * a * b) + b * b
square-in-parts a b =
    square-of-sum (67108864 * a) b
    ∙ ap (λ (x : ℕ). x + 2 * (67108864 * a * b) + b * b) (mul-mul-mul_comm 67108864 a 67108864 a)
    ∙ regroup (a * a) (67108864 * a * b) (a * b) (2 * a * b) (b * b) (mul_assoc 67108864 a b) (mul_assoc 2 a b)
  where
    regroup : (p q r s t : ℕ) → q ≡ 67108864 * r → s ≡ 2 * r → 4503599627370496 * p + 2 * q + t ≡ 4503599627370496 * p + 67108864 * s + t
    regroup p q r s t h k = omega arith

pub with-next : (r : ℕ) → r * (r + 1) ≡ r * r + r
with-next r = mul-add r r 1 ∙ ap (λ (x : ℕ). r * r + x) (mul-one r)

pub parts-of : (r : ℕ) → r ≡ 67108864 * (r / 67108864) + r % 67108864
parts-of r = omega arith

-- the whole part of the product, divided by 2 ^ 52
pub product-in-parts : (r : ℕ)
    → r / 67108864 * (r / 67108864) + (2 * (r / 67108864) * (r % 67108864) + (r % 67108864 * (r % 67108864) + r) / 67108864) / 67108864
    ≡ r * (r + 1) / 4503599627370496
product-in-parts r =
    let a = r / 67108864 in
    let b = r % 67108864 in
    let square : r * r ≡ 4503599627370496 * (a * a) + 67108864 * (2 * a * b) + b * b = ap (λ (x : ℕ). x * x) (parts-of r) ∙ square-in-parts a b in
    carried (a * a) (2 * a * b) (b * b) r (r * (r + 1)) (with-next r ∙ ap (λ (x : ℕ). x + r) square)
  where
    carried : (p q s r t : ℕ) → t ≡ 4503599627370496 * p + 67108864 * q + s + r → p + (q + (s + r) / 67108864) / 67108864 ≡ t / 4503599627370496
    carried p q s r t h = omega arith

-- q is n / d, cut to a whole number: it is below m exactly where n is below m * d
pub compared : (r m : ℕ)
    → ltb (r / 67108864 * (r / 67108864) + (2 * (r / 67108864) * (r % 67108864) + (r % 67108864 * (r % 67108864) + r) / 67108864) / 67108864) m
    ≡ ltb (r * (r + 1)) (m * 2 ^ 52)
compared r m = ap (λ (q : ℕ). ltb q m) (product-in-parts r) ∙ cut (r * (r + 1)) m
  where
    cut : (n m : ℕ) → ltb (n / 4503599627370496) m ≡ ltb n (m * 4503599627370496)
    cut n m = same (ltb n (m * 4503599627370496)) (ltb→lt n (m * 4503599627370496)) (nltb→le n (m * 4503599627370496))
      where
        same : (b : Bool) → (T b → n < m * 4503599627370496) → (T (not b) → m * 4503599627370496 ≤ n) → ltb (n / 4503599627370496) m ≡ b
        same true h k = let l : n < m * 4503599627370496 = h tt in lt-ltb (n / 4503599627370496) m (omega arith)
        same false h k = let l : m * 4503599627370496 ≤ n = k tt in le-ltb (n / 4503599627370496) m (omega arith)
