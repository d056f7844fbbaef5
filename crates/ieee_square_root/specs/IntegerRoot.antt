-- The integer square root: the largest whole number whose square is at most n. Assumes nothing.
use Rattle.std.specs.Prelude.{◌≡◌, refl, Bool, true, false, not, cond, ℕ, zero, suc, ◌+◌, ◌*◌, ◌/◌, ◌^◌, ◌≤◌, ◌<◌, T, leb}
use Rattle.std.proofs.Common.{sym, ap, ◌∙◌, zero-le, le_trans, le_of_eq, lt_of_lt_of_le, mul-le-mul_right, one-mul, arith, leb→le, pow_pos}
use Rattle.std.proofs.Math.Nat.{mul-mul-mul_comm, pow-succ'}
use Rattle.std.proofs.Math.Dec.{nleb→lt}
use Rattle.std.specs.Float.Ieee.{size}
use Rattle.std.specs.Float.Ieee.Digits.{size-lt}

-- the whole part of the root of an n below 4 ^ d: one binary digit of the root for two of n
unfoldable pub root_digits : ℕ → ℕ → ℕ
root_digits zero n = 0
root_digits (suc d) n = let r = 2 * root_digits d (n / 4) in cond (leb ((r + 1) * (r + 1)) n) (r + 1) r

-- the integer square root of n
unfoldable pub isqrt : ℕ → ℕ
unfolding root_digits size
isqrt n = root_digits (size n) n

-- what it is: r squared is at most n, and the square of r + 1 is more
pub record IsIntegerRoot (n r : ℕ) : Type 0 where
  pub lower : r * r ≤ n
  pub upper : n < (r + 1) * (r + 1)

pub four-pow : (k : ℕ) → 4 ^ k ≡ 2 ^ k * 2 ^ k
four-pow zero = refl
four-pow (suc k) =
    pow-succ' 4 k
    ∙ ap (λ (x : ℕ). 4 * x) (four-pow k)
    ∙ sym (mul-mul-mul_comm 2 (2 ^ k) 2 (2 ^ k))
    ∙ ap (λ (x : ℕ). x * x) (sym (pow-succ' 2 k))

-- a quotient by 4 against a number, and the number's fourfold against what was divided
quotient-lt : (n p : ℕ) → n < 4 * p → n / 4 < p
quotient-lt n p h = omega arith

fourfold-le : (n s : ℕ) → s ≤ n / 4 → 4 * s ≤ n
fourfold-le n s h = omega arith

lt-fourfold : (n s : ℕ) → n / 4 < s → n < 4 * s
lt-fourfold n s h = omega arith

pub root_digits-is : (d n : ℕ) → n < 4 ^ d → IsIntegerRoot n (root_digits d n)
unfolding root_digits
root_digits-is zero n h = record { lower = zero-le; upper = h }
root_digits-is (suc d) n h =
    let p = root_digits d (n / 4) in
    let i = root_digits-is d (n / 4) (quotient-lt n (4 ^ d) (lt_of_lt_of_le h (le_of_eq (pow-succ' 4 d)))) in
    let r = 2 * p in
    let lower : r * r ≤ n = le_trans (le_of_eq (mul-mul-mul_comm 2 p 2 p)) (fourfold-le n (p * p) i.lower) in
    let upper : n < (r + 1 + 1) * (r + 1 + 1) =
    lt_of_lt_of_le (lt-fourfold n ((p + 1) * (p + 1)) i.upper)
    (le_of_eq (sym (mul-mul-mul_comm 2 (p + 1) 2 (p + 1)) ∙ ap (λ (x : ℕ). x * x) (twice p))) in
    digit (leb ((r + 1) * (r + 1)) n) r lower upper (leb→le ((r + 1) * (r + 1)) n) (nleb→lt ((r + 1) * (r + 1)) n)
  where
    twice : (p : ℕ) → 2 * (p + 1) ≡ 2 * p + 1 + 1
    twice p = omega arith

    -- the next digit is 1 exactly where the larger square is still at most n
    digit : (b : Bool) (r : ℕ)
        → r * r ≤ n
        → n < (r + 1 + 1) * (r + 1 + 1)
        → (T b → (r + 1) * (r + 1) ≤ n)
        → (T (not b) → n < (r + 1) * (r + 1))
        → IsIntegerRoot n (cond b (r + 1) r)
    digit true r lower upper one other = record { lower = one tt; upper = upper }
    digit false r lower upper one other = record { lower = lower; upper = other tt }

-- the integer square root is what it is said to be, for every n
pub isqrt-is : (n : ℕ) → IsIntegerRoot n (isqrt n)
unfolding isqrt
isqrt-is n =
    root_digits-is (size n) n
    (lt_of_lt_of_le (size-lt n)
    (le_trans (le_trans (le_of_eq (sym (one-mul (2 ^ size n)))) (mul-le-mul_right (2 ^ size n) (pow_pos (size n))))
    (le_of_eq (sym (four-pow (size n))))))
