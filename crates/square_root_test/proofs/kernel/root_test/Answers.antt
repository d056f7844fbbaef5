-- `root_test` meets its contract: where the sign bit is left it is set in each of the words, which say that x is normal and finite, that y's
-- digits are the nearest, and that its exponent is half of x's.
use mathlib.Core.Path.{◌≡◌, subst}
use Prim.Native.Nat.{ℕ, ◌+◌, ◌-◌}
use lib.Bits.{bit_and}
use Rattle.ieee_square_root.specs.Steps.{RootDigits}
use Rattle.square_root_test.proofs.Verified.{significand, odd, radicand, passed}
use Rattle.square_root_test.proofs.kernel.root_test.Goals as goal

-- the digits tested are those of the two values' bits
of-bits : (bits root : ℕ) {s r : ℕ} → s ≡ significand bits → r ≡ significand root
    → RootDigits (s + bit_and s (9223372036854775808 - odd bits)) r
    → RootDigits (radicand bits) (significand root)
of-bits bits root {s} {r} of-x of-y q =
    subst (λ (n : ℕ). RootDigits (radicand bits) n) of-y
    (subst (λ (n : ℕ). RootDigits (n + bit_and n (9223372036854775808 - odd bits)) r) of-x q)

pub returns : goal.returns
returns c =
    passed c.bits_or_zero-bits.ensures c.bits_or_zero-root.ensures
    (λ set. of-bits _ _ c.from_bits-significand.ensures c.from_bits-r.ensures (c.digits_test.ensures set))
