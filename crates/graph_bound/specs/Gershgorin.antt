-- The Gershgorin bound (01, part 2): the largest sum of absolute values over the rows, in the operations of a format as
-- `gershgorin_bound_csr` rounds them. Assumes nothing.
use Rattle.std.specs.Prelude.{cond, List, ℕ, zero as none, suc, ◌+◌ as ◌+ℕ◌, ◌-◌ as ◌-ℕ◌, length, get_or, Float}
use Rattle.std.specs.Float.{Format}
use Rattle.std.specs.Float.Ieee.{lt}
use Rattle.arithmetic.specs.Arithmetic.{ieee, at}
use Rattle.arithmetic.specs.Product.{sum_to}

-- the larger of two values, the first where neither is
unfoldable pub larger : Float → Float → Float
larger x y = cond (lt x y) y x

module _ (f : Format) where
  open ieee f use {zero, ◌-◌}

  infixl 60 ◌-◌
  -- the absolute value of v: 0 - v where v is below 0, else v
  unfoldable pub absolute : Float → Float
  absolute v = cond (lt v zero) (zero - v) v

  -- the sum of the absolute values of the entries lo, .., hi - 1, added in stored order to +0
  unfoldable pub absolute_sum : List Float → ℕ → ℕ → Float
  absolute_sum vals lo hi = sum_to (ieee f) (λ j. absolute (at (ieee f) vals (lo +ℕ j))) (hi -ℕ lo)

  -- that of row i
  unfoldable pub row_absolute_sum : List ℕ → List Float → ℕ → Float
  row_absolute_sum starts vals i = absolute_sum vals (get_or starts i 0) (get_or starts (i +ℕ 1) 0)

  -- the largest of +0, s 0, .., s (n - 1)
  unfoldable pub largest_to : (ℕ → Float) → ℕ → Float
  largest_to s none = zero
  largest_to s (suc n) = larger (largest_to s n) (s n)

  -- the bound of a matrix with these row starts, one more than it has rows, and values
  unfoldable pub gershgorin_bound : List ℕ → List Float → Float
  gershgorin_bound starts vals = largest_to (row_absolute_sum starts vals) (length starts -ℕ 1)
