-- The coefficients 1 / k! of the Taylor sums (01, part 6) and of the plain sum (01, demand 3). Assumes nothing.
use Rattle.std.specs.Prelude.{◌≡◌, false, ℕ, zero, suc, ◌*◌, ◌^◌, ◌≤◌, pos, Float}
use Rattle.std.proofs.Common.{ap, ⊎_elim, zero-lt-suc, le_trans, le_of_eq, le_of_suc-le-suc, eq-or-lt_of_le, le-mul_of_pos_right, arith, lit≤}
use Rattle.std.specs.Float.{Format, binary32, binary64}
use Rattle.std.specs.Float.Ieee.{prec, of_int, div}
use Rattle.std.specs.Float.Ieee.Exact.{HasValue}
use Rattle.std.specs.Float.Ieee.Back.{round_whole}

-- k!
unfoldable pub factorial : ℕ → ℕ
factorial zero = 1
factorial (suc k) = factorial k * suc k

-- 1 / k!, one rounded division (the Rust forms 2, 6 and 24 without rounding, and divides once by each)
unfoldable pub reciprocal_factorial : Format → ℕ → Float
unfolding factorial of_int div
reciprocal_factorial f k = div f (of_int f (pos 1)) (of_int f (pos (factorial k)))

-- ---- k! itself is not rounded, up to 6!, the highest in use (01, part 9)

factorial-grows : (k m : ℕ) → k ≤ m → factorial k ≤ factorial m
unfolding factorial
factorial-grows k zero h = let e : k ≡ zero = omega arith in le_of_eq (ap factorial e)
factorial-grows k (suc m) h =
    ⊎_elim (λ e. le_of_eq (ap factorial e))
    (λ l. le_trans (factorial-grows k m (le_of_suc-le-suc l)) (le-mul_of_pos_right (factorial m) (zero-lt-suc m)))
    (eq-or-lt_of_le h)

pub factorial-exact : (f : Format) (k : ℕ) → k ≤ 6 → HasValue (of_int f (pos (factorial k))) false (factorial k) 1
unfolding factorial of_int
factorial-exact f k h = round_whole f false (factorial k) (le_trans (factorial-grows k 6 h) (six f))
  where
    six : (f : Format) → factorial 6 ≤ 2 ^ prec f
    six binary32 = lit≤ tt
    six binary64 = lit≤ tt
