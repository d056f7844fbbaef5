-- `estimate` promises nothing; it is safe: a pattern without its last digits is no NaN's where the whole is none's. Assumes nothing.
use mathlib.Core.Path.{sym, subst, ◌∙◌}
use mathlib.Core.Bool.{Bool, not}
use Prim.Native.Nat.{ℕ, ◌-◌, ◌%◌, ◌≤◌}
use native.Mathlib.Omega.{arith}
use lib.Dec.{T, nltb→le}
use lib.Ieee.{binary64, nan_bits}
use lib.Ieee.Bits.{nan_bits_above}
use borrow.Author.Tests.{le-ltb}
use Rattle.square_roots_estimates.proofs.kernel.estimate.Goals as goal

without-last : (b : ℕ) → T (not (nan_bits binary64 b)) → T (not (nan_bits binary64 (b - b % 134217728)))
without-last b h =
    let below = nltb→le 9218868437227405312 (b % 9223372036854775808) (subst (λ (t : Bool). T (not t)) (nan_bits_above binary64 b) h) in
    subst (λ (t : Bool). T (not t))
    (sym (nan_bits_above binary64 (b - b % 134217728) ∙ le-ltb 9218868437227405312 ((b - b % 134217728) % 9223372036854775808) (less b below))) tt
  where
    less : (b : ℕ) → b % 9223372036854775808 ≤ 9218868437227405312 → (b - b % 134217728) % 9223372036854775808 ≤ 9218868437227405312
    less b h = omega arith

pub float_from_bits-leading : goal.float_from_bits-leading
float_from_bits-leading c = without-last c.bits_or_zero-digits.result c.bits_or_zero-digits.ensures.no_nan
