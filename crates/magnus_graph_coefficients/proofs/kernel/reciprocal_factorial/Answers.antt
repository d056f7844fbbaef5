-- `magnus_graph_coefficients::kernel::reciprocal_factorial` meets its contract: each arm knows k, and its division is that of
-- the definition, as computing both shows.
use mathlib.Core.Path.{◌≡◌, refl}
use Prim.Native.Nat.{ℕ}
use native.Mathlib.Omega.{arith}
use lib.Ieee.{Float, binary64, div, of_bits, of_int}
use Rattle.magnus.specs.Coefficients.{factorial, reciprocal_factorial}
use Rattle.magnus_graph_coefficients.proofs.kernel.reciprocal_factorial.Goals as goal

-- 1 divided by the number with these bits
abbrev over : ℕ → Float
over bits = div binary64 (of_bits binary64 0x3FF0_0000_0000_0000) (of_bits binary64 bits)

-- the quotients, from 1 / 720 to 1 / 1
over720 : over 0x4086_8000_0000_0000 ≡ reciprocal_factorial binary64 6
unfolding reciprocal_factorial factorial of_int of_bits
over720 = refl

over120 : over 0x405E_0000_0000_0000 ≡ reciprocal_factorial binary64 5
unfolding reciprocal_factorial factorial of_int of_bits
over120 = refl

over24 : over 0x4038_0000_0000_0000 ≡ reciprocal_factorial binary64 4
unfolding reciprocal_factorial factorial of_int of_bits
over24 = refl

over6 : over 0x4018_0000_0000_0000 ≡ reciprocal_factorial binary64 3
unfolding reciprocal_factorial factorial of_int of_bits
over6 = refl

over2 : over 0x4000_0000_0000_0000 ≡ reciprocal_factorial binary64 2
unfolding reciprocal_factorial factorial of_int of_bits
over2 = refl

over1 : over 0x3FF0_0000_0000_0000 ≡ reciprocal_factorial binary64 1
unfolding reciprocal_factorial factorial of_int of_bits
over1 = refl

pub returns-in-1 : goal.returns-in-1
returns-in-1 c = rw c.in-1.is over1

pub returns-in-2 : goal.returns-in-2
returns-in-2 c = rw c.in-2.is over2

pub returns-in-3 : goal.returns-in-3
returns-in-3 c = rw c.in-3.is over6

pub returns-in-4 : goal.returns-in-4
returns-in-4 c = rw c.in-4.is over24

pub returns-in-5 : goal.returns-in-5
returns-in-5 c = rw c.in-5.is over120

pub returns-in_default : goal.returns-in_default
returns-in_default c = let e : c.args.k ≡ 6 = omega arith in rw e over720
