-- The weighted product (01, part 5) in a work slice, as the contracts of its kernel cite it. Its formula, over any arithmetic,
-- stands in the crate magnus (specs/Operators.antt). Assumes nothing.
use Rattle.std.specs.Prelude.{List, ℕ, ◌*◌}
use Rattle.arithmetic.specs.Arithmetic.{Arithmetic, multiplied}
use Rattle.scratch.specs.Parts.{part, put}
use Rattle.magnus.specs.Operators.{Operator, weighted}

module _ {K : Type 0} (A : Arithmetic K) (n : ℕ) where
  -- The work slice w with the weighted product of L, for the roots r and the vector at `source`, written to `target`. On
  -- the way the scaled signal was written to 5n.
  abbrev pub with_product : Operator A n → List K → ℕ → ℕ → List K → List K
  with_product L r source target w =
      let v = part source n w in
      put target (weighted A n r L v) (put (5 * n) (multiplied A n r v) w)
