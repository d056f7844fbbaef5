-- Equality up to the sign of a zero (01, demand 3), of vectors.
use Rattle.std.specs.Prelude.{◌≡◌, List, ℕ, length, get_or, Float}
use Rattle.std.specs.Float.{nan}
use Rattle.rounding.specs.SignOfZero.{Same}

-- x and y have as many places and are equal up to the sign of a zero at each (past the end both read nan)
pub record SameList (x y : List Float) : Type 0 where
  pub lengths : length x ≡ length y
  pub places : (i : ℕ) → Same (get_or x i nan) (get_or y i nan)
