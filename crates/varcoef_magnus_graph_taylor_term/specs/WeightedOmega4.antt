-- The weighted step of order 4 (01, part 7), as the contracts of its kernel cite it. Its formulas, over any arithmetic,
-- stand in the crate magnus (specs/Operators.antt). Assumes nothing.
use Rattle.std.specs.Prelude.{List, ℕ}
use Rattle.arithmetic.specs.Arithmetic.{Arithmetic}
use Rattle.magnus.specs.Operators.{Operator, weighted, omega4}

module _ {K : Type 0} (A : Arithmetic K) (n : ℕ) where
  -- Ωv of order 4 (01, part 7) from the products L1 and L2 with the two samples and the roots of their weights
  abbrev pub weighted_omega4 : K → K → K → K → Operator A n → Operator A n → List K → List K → Operator A n
  weighted_omega4 minus_half s sign τ L1 L2 root1 root2 =
      omega4 A n minus_half s sign τ (weighted A n root1 L1) (weighted A n root2 L2)
