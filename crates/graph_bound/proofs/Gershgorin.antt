-- How a loop forms the Gershgorin bound: a row's sum of absolute values one entry after the other, and the largest sum
-- one row after the other. For any format. Assumes nothing.
use mathlib.Core.Path.{◌≡◌, refl}
use mathlib.Core.Bool.{true, false}
use mathlib.Core.List.{List}
use Prim.Native.Nat.{ℕ, ◌≤◌, ◌+◌ as ◌+ℕ◌, ◌-◌ as ◌-ℕ◌}
use native.Mathlib.Nat.{sub_self}
use native.Mathlib.Numerals.{add-one}
use native.Mathlib.Omega.{arith}
use lib.Ieee.{Float, Format, lt}
use Rattle.arithmetic.specs.Arithmetic.{ieee, at}
use Rattle.arithmetic.specs.Product.{sum_to}
use Rattle.arithmetic.proofs.Product.{sum-next}
use Rattle.graph_bound.specs.Gershgorin.{absolute, absolute_sum, larger, largest_to}

-- the larger of two values, by the comparison's answer
module _ (x y : Float) where
  pub larger-second : lt x y ≡ true → larger x y ≡ y
  unfolding larger
  larger-second h = rw h

  pub larger-first : lt x y ≡ false → larger x y ≡ x
  unfolding larger
  larger-first h = rw h

module _ (f : Format) where
  open ieee f use {zero, ◌+◌, ◌-◌}

  infixl 60 ◌+◌ ◌-◌
  -- the absolute value, by the comparison's answer
  module _ (v : Float) where
    pub absolute-below : lt v zero ≡ true → absolute f v ≡ zero - v
    unfolding absolute
    absolute-below h = rw h

    pub absolute-not-below : lt v zero ≡ false → absolute f v ≡ v
    unfolding absolute
    absolute-not-below h = rw h

  -- no entry
  pub absolute-sum-none : (vals : List Float) (lo : ℕ) → absolute_sum f vals lo lo ≡ zero
  unfolding absolute_sum sum_to
  absolute-sum-none vals lo = rw sub_self

  -- one entry more
  pub absolute-sum-next : (vals : List Float) (lo k : ℕ) → lo ≤ k
      → absolute_sum f vals lo (k +ℕ 1) ≡ absolute_sum f vals lo k + absolute f (at (ieee f) vals k)
  unfolding absolute_sum
  absolute-sum-next vals lo k h =
      let more : k +ℕ 1 -ℕ lo ≡ k -ℕ lo +ℕ 1 = omega arith in
      let last : lo +ℕ (k -ℕ lo) ≡ k = omega arith in
      rw (more, sum-next, last)

  -- no row, and one row more
  pub largest-none : (s : ℕ → Float) → largest_to f s 0 ≡ zero
  unfolding largest_to
  largest-none s = refl

  pub largest-next : (s : ℕ → Float) (n : ℕ) → largest_to f s (n +ℕ 1) ≡ larger (largest_to f s n) (s n)
  unfolding largest_to
  largest-next s n = rw add-one
