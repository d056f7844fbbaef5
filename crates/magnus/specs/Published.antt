-- The exponents of order 4 and 6 as they are published, in operators and their commutators: Blanes, Casas, Oteo, Ros,
-- "The Magnus expansion and some of its applications" (2009), the integrators with two and three Gauss nodes. A1, A2 and
-- A3 are the operators A of the equation v' = A v at the nodes. For the heat equation A = -L, so that they are the
-- negatives of the products with the samples.
use Rattle.std.specs.Prelude.{◌≡◌, List, ℕ}
use Rattle.arithmetic.specs.Arithmetic.{Arithmetic}
use Rattle.arithmetic.specs.Product.{sum_to}
use Rattle.magnus.specs.Operators.{Operator, omega4}
use Rattle.magnus.specs.OperatorArithmetic.{operators, on_vectors}
use Rattle.magnus.specs.Omega6.{Constants6, omega6}

-- m x = x + x + .. + x, with m terms, for a number or an operator
abbrev pub times : {K : Type 0} → Arithmetic K → ℕ → K → K
times A m x = sum_to A (λ i. x) m

module _ {K : Type 0} (A : Arithmetic K) (n : ℕ) where
  open A use {◌*◌, -◌}
  open operators A n use {◌+◌, ◌-◌, ◌*◌ as ◌∘◌, -◌ as minus}

  infixl 60 ◌+◌ ◌-◌
  infixr 65 ◌·◌
  infixl 70 ◌*◌ ◌∘◌
  infix 80 -◌
  -- s times an operator
  abbrev ◌·◌ : K → Operator A n → Operator A n
  ◌·◌ = (on_vectors A n).scale

  -- [X, Y] = XY - YX
  unfoldable pub commutator : Operator A n → Operator A n → Operator A n
  commutator X Y = X ∘ Y - Y ∘ X

  -- the exponent of a step: (τ/2)(A1 + A2) - c·τ²·[A1, A2], with half for 1/2 and c for √3/12
  unfoldable pub order4 : K → K → K → Operator A n → Operator A n → Operator A n
  order4 half c τ A1 A2 = (half * τ) · (A1 + A2) - (c * (τ * τ)) · commutator A1 A2

  -- its adjoint where A1 and A2 are symmetric, the exponent of an adjoint step (01, part 6):
  -- (τ/2)(A1 + A2) + c·τ²·[A1, A2]
  unfoldable pub order4_adjoint : K → K → K → Operator A n → Operator A n → Operator A n
  order4_adjoint half c τ A1 A2 = (half * τ) · (A1 + A2) + (c * (τ * τ)) · commutator A1 A2

  -- the exponent of order 6 (01, part 9): B1 + B3/12 + (1/240)[-20 B1 - B3 + C1, B2 + C2]
  unfoldable pub order6 : Constants6 K → K → Operator A n → Operator A n → Operator A n → Operator A n
  order6 k τ A1 A2 A3 =
      let B1 = τ · A2 in
      let B2 = (k.sqrt15_over3 * τ) · (A3 - A1) in
      let B3 = (k.ten_over3 * τ) · (A3 - times (operators A n) 2 A2 + A1) in
      let C1 = commutator B1 B2 in
      let C2 = (- k.one_over60) · commutator B1 (times (operators A n) 2 B3 + C1) in
      B1 + k.one_over12 · B3
      + k.one_over240 · commutator (minus (times (operators A n) 20 B1) - B3 + C1) (B2 + C2)

module _ {K : Type 0} (A : Arithmetic K) (n : ℕ) (half c τ : K) (P1 P2 : Operator A n) where
  open A use {◌*◌, -◌}
  open operators A n use { -◌ as minus}

  infixl 70 ◌*◌
  infix 80 -◌
  -- Ωv of order 4 with the products P1 and P2 (01, part 6) is the published exponent at v, with A1 = -P1 and A2 = -P2:
  -- forward where its factor `sign` is a 1, adjoint where it is a -1. The adjoint one is also the forward exponent with
  -- A1 and A2 exchanged.
  pub record AsPublished : Type 0 where
    pub forward : (sign : K) → ((x : K) → sign * x ≡ x) → (v : List K)
        → omega4 A n (- half) c sign τ P1 P2 v ≡ order4 A n half c τ (minus P1) (minus P2) v
    pub adjoint : (sign : K) → ((x : K) → sign * x ≡ - x) → (v : List K)
        → omega4 A n (- half) c sign τ P1 P2 v ≡ order4_adjoint A n half c τ (minus P1) (minus P2) v
    pub adjoint-exchanged : (sign : K) → ((x : K) → sign * x ≡ - x) → (v : List K)
        → omega4 A n (- half) c sign τ P1 P2 v ≡ order4 A n half c τ (minus P2) (minus P1) v

module _ {K : Type 0} (A : Arithmetic K) (n : ℕ) (k : Constants6 K) (τ : K) (P1 P2 P3 : Operator A n) where
  open A use {◌*◌, -◌}
  open operators A n use { -◌ as minus}

  infixl 70 ◌*◌
  infix 80 -◌
  -- Ωv of order 6 with the products P1, P2 and P3 (01, part 9) is the published exponent at v, with Ai = -Pi, where the
  -- constant minus_twenty is a -20
  abbrev pub AsPublished6 : Type 0
  AsPublished6 =
      ((x : K) → k.minus_twenty * x ≡ - times A 20 x)
      → (v : List K)
      → omega6 (on_vectors A n) k τ P1 P2 P3 v ≡ order6 A n k τ (minus P1) (minus P2) (minus P3) v
