-- Exact numbers: an arithmetic that keeps the laws of a commutative ring, as the integers, the fractions and the real
-- numbers do and the rounded operations of a format do not. Read over such an arithmetic, a formula can be compared
-- with a published one. And two properties of operators on vectors over it: linear and symmetric.
use Rattle.std.specs.Prelude.{◌≡◌, List, ℕ}
use Rattle.arithmetic.specs.Arithmetic.{Arithmetic, at, vectors, scaled}
use Rattle.arithmetic.specs.Product.{sum_to}
use Rattle.magnus.specs.Operators.{Operator}

module _ {K : Type 0} (A : Arithmetic K) where
  open A use {zero, ◌+◌, ◌-◌, ◌*◌, -◌}

  infixl 60 ◌+◌ ◌-◌
  infixl 70 ◌*◌
  infix 80 -◌
  -- the laws of a commutative ring. A 1 is not asked for, and past may be any element.
  pub record Ring : Type 0 where
    pub add_assoc : (x y z : K) → x + y + z ≡ x + (y + z)
    pub add_comm : (x y : K) → x + y ≡ y + x
    pub add-zero : (x : K) → x + zero ≡ x
    pub add-neg : (x : K) → x + - x ≡ zero
    pub sub-eq-add-neg : (x y : K) → x - y ≡ x + - y
    pub mul_assoc : (x y z : K) → x * y * z ≡ x * (y * z)
    pub mul_comm : (x y : K) → x * y ≡ y * x
    pub mul-add : (x y z : K) → x * (y + z) ≡ x * y + x * z

  -- the dot product of two vectors of n places: x 0 * y 0 + x 1 * y 1 + .. + x (n - 1) * y (n - 1)
  unfoldable pub dot : ℕ → List K → List K → K
  dot n x y = sum_to A (λ i. at A x i * at A y i) n

module _ {K : Type 0} (A : Arithmetic K) (n : ℕ) (P : Operator A n) where
  open vectors A n use {◌+◌ as ◌⊕◌}

  infixl 60 ◌⊕◌
  infixr 65 ◌·◌
  abbrev ◌·◌ : K → List K → List K
  ◌·◌ = scaled A n

  -- P is linear: it takes a sum to the sum and a multiple to the multiple
  pub record Linear : Type 0 where
    pub of-sum : (x y : List K) → P (x ⊕ y) ≡ P x ⊕ P y
    pub of-multiple : (s : K) (x : List K) → P (s · x) ≡ s · P x

  -- P is symmetric: in a dot product it may stand on either side
  pub record Symmetric : Type 0 where
    pub either_side : (w v : List K) → dot A n w (P v) ≡ dot A n (P w) v
