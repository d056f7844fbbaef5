-- The counts of a run are numbers of the format, so that a count turned real is not rounded. Assumes nothing.
use Prim.Native.Nat.{ℕ, ◌^◌, ◌≤◌}
use native.Mathlib.Omega.{arith}
use lib.Dec.{T, le→leb}
use lib.IntN.{pos}
use lib.Ieee.{binary64, in_float}

pub count-exact : (count : ℕ) → count ≤ 65535 → T (in_float binary64 (pos count))
unfolding in_float
count-exact count l = let h : count ≤ 2 ^ 53 = omega arith in le→leb _ _ h
