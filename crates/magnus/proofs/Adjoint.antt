-- The adjoint formula of order 4 is the adjoint of the forward one: over exact numbers, for symmetric products, the dot
-- product of w with the forward Ωv is the dot product of the adjoint Ωw with v, and so it is for the whole step.
-- Each product moves to the other side of the dot product, which turns P2 P1 into P1 P2 and so the commutator into its
-- negative. Assumes nothing.
use mathlib.Core.Path.{◌≡◌, refl, sym, ap, ap₂, ◌∙◌}
use mathlib.Core.List.{List}
use Prim.Native.Nat.{ℕ, zero as none, suc}
use Rattle.arithmetic.specs.Arithmetic.{Arithmetic, at, vectors, scaled}
use Rattle.arithmetic.proofs.Product.{at-tabulate}
use Rattle.magnus.specs.Operators.{Operator, weighted, omega4, power, taylor}
use Rattle.magnus.specs.Ring.{Ring, dot, Symmetric}
use Rattle.magnus.proofs.Vectors.{mul_left_comm, neg-neg, neg-add, mul-neg, neg-mul}
use Rattle.magnus.proofs.Vectors.{sum_same, sum-add, sum-mul, sum-neg}

module _ {K : Type 0} {A : Arithmetic K} (R : Ring A) (n : ℕ) where
  open A use {◌+◌, ◌*◌, -◌}
  open vectors A n use {◌+◌ as ◌⊕◌, ◌-◌ as ◌⊖◌, ◌*◌ as ◌⊙◌}
  open R use {add_comm, sub-eq-add-neg, mul_assoc, mul_comm, mul-add}

  infixl 60 ◌+◌ ◌⊕◌ ◌⊖◌
  infixr 65 ◌·◌
  infixl 70 ◌*◌ ◌⊙◌
  infix 80 -◌
  abbrev ◌·◌ : K → List K → List K
  ◌·◌ = scaled A n

  -- ---- the dot product of sums, differences and multiples
  pub dot-comm : (x y : List K) → dot A n x y ≡ dot A n y x
  unfolding dot
  dot-comm x y = sum_same R _ _ n (λ i h. mul_comm (at A x i) (at A y i))

  pub dot-sum : (w x y : List K) → dot A n w (x ⊕ y) ≡ dot A n w x + dot A n w y
  unfolding dot
  dot-sum w x y = sum_same R _ _ n (λ i h. simp (at-tabulate A, mul-add)) ∙ sum-add R _ _ n

  pub dot-multiple : (s : K) (w x : List K) → dot A n w (s · x) ≡ s * dot A n w x
  unfolding dot
  dot-multiple s w x =
      sum_same R _ (λ i. s * (at A w i * at A x i)) n (λ i h. rw (at-tabulate A) (mul_left_comm R _ _ _))
      ∙ sum-mul R s _ n

  pub dot-difference : (w x y : List K) → dot A n w (x ⊖ y) ≡ dot A n w x + - dot A n w y
  unfolding dot
  dot-difference w x y =
      sum_same R _ (λ i. at A w i * at A x i + - (at A w i * at A y i)) n
      (λ i h. simp (at-tabulate A, sub-eq-add-neg, mul-add, mul-neg R))
      ∙ sum-add R _ _ n ∙ ap (◌+◌ _) (sum-neg R _ n)

  pub sum-dot : (x y w : List K) → dot A n (x ⊕ y) w ≡ dot A n x w + dot A n y w
  sum-dot x y w = dot-comm _ _ ∙ dot-sum w x y ∙ ap₂ ◌+◌ (dot-comm w x) (dot-comm w y)

  pub multiple-dot : (s : K) (x w : List K) → dot A n (s · x) w ≡ s * dot A n x w
  multiple-dot s x w = dot-comm _ _ ∙ dot-multiple s w x ∙ ap (s *◌) (dot-comm w x)

  pub difference-dot : (x y w : List K) → dot A n (x ⊖ y) w ≡ dot A n x w + - dot A n y w
  difference-dot x y w = dot-comm _ _ ∙ dot-difference w x y ∙ ap₂ (λ a b. a + - b) (dot-comm w x) (dot-comm w y)

  -- ---- a weighted product is symmetric where the product is
  weights-either-side : (root x y : List K) → dot A n (root ⊙ x) y ≡ dot A n x (root ⊙ y)
  unfolding dot
  weights-either-side root x y =
      sum_same R _ _ n (λ i h. simp (at-tabulate A, mul_assoc, mul_left_comm R))

  pub weighted-symmetric : (root : List K) (P : Operator A n) → Symmetric A n P → Symmetric A n (weighted A n root P)
  unfolding weighted
  weighted-symmetric root P symmetric = record {
    either_side = λ w v.
        sym (weights-either-side root w _) ∙ symmetric.either_side (root ⊙ w) (root ⊙ v)
        ∙ sym (weights-either-side root _ v);
  }

  -- ---- the powers and the Taylor sum of two operators, of which one is the adjoint of the other
  power-first : (U : Operator A n) (k : ℕ) (w : List K) → power A n U k (U w) ≡ power A n U (suc k) w
  unfolding power
  power-first U none w = refl
  power-first U (suc k) w = ap U (power-first U k w)

  module _ (W U : Operator A n) (adjoint : (w v : List K) → dot A n w (W v) ≡ dot A n (U w) v) where
    power-adjoint : (k : ℕ) (w v : List K) → dot A n w (power A n W k v) ≡ dot A n (power A n U k w) v
    unfolding power
    power-adjoint none w v = refl
    power-adjoint (suc k) w v =
        adjoint w (power A n W k v) ∙ power-adjoint k (U w) v ∙ ap (λ y. dot A n y v) (power-first U k w)

    pub taylor-adjoint : (coefficient : ℕ → K) (d : ℕ) (w v : List K)
        → dot A n w (taylor A n coefficient d W v) ≡ dot A n (taylor A n coefficient d U w) v
    unfolding taylor
    taylor-adjoint coefficient none w v = refl
    taylor-adjoint coefficient (suc d) w v =
        let s = coefficient (suc d) in
        dot-sum w _ _ ∙ ap (◌+◌ _) (dot-multiple s w _)
        ∙ ap₂ (λ x y. x + s * y) (taylor-adjoint coefficient d w v) (power-adjoint (suc d) w v)
        ∙ sym (sum-dot _ _ v ∙ ap (◌+◌ _) (multiple-dot s _ v))

  -- ---- order 4
  -- two symmetric products one after the other
  two_products : (P Q : Operator A n) → Symmetric A n P → Symmetric A n Q
      → (w v : List K) → dot A n w (P (Q v)) ≡ dot A n (Q (P w)) v
  two_products P Q p q w v = p.either_side w (Q v) ∙ q.either_side (P w) v

  -- P1 and P2 are symmetric, sign is the factor of the forward formula and adjoint_sign that of the adjoint one
  module _ (P1 P2 : Operator A n) (symmetric1 : Symmetric A n P1) (symmetric2 : Symmetric A n P2)
      (minus_half c τ sign adjoint_sign : K) (forward : (x : K) → sign * x ≡ x)
      (adjoint : (x : K) → adjoint_sign * x ≡ - x) where
    -- the exponent: the dot product of w with the forward Ωv is that of the adjoint Ωw with v
    pub omega4-adjoint : (w v : List K)
        → dot A n w (omega4 A n minus_half c sign τ P1 P2 v) ≡ dot A n (omega4 A n minus_half c adjoint_sign τ P1 P2 w) v
    unfolding omega4
    omega4-adjoint w v =
        rw (forward c, adjoint c)
        (simp (
          dot-sum,
          dot-multiple,
          dot-difference,
          sum-dot,
          multiple-dot,
          difference-dot,
          two_products P2 P1 symmetric2 symmetric1,
          two_products P1 P2 symmetric1 symmetric2,
          symmetric1.either_side,
          symmetric2.either_side,
        )
        (simp (neg-mul R, mul-add, mul-neg R, neg-neg R, neg-add R, add_comm)))

    -- the step, for any coefficients and any degree of its Taylor sum
    pub step-adjoint : (coefficient : ℕ → K) (d : ℕ) (w v : List K)
        → dot A n w (taylor A n coefficient d (omega4 A n minus_half c sign τ P1 P2) v)
        ≡ dot A n (taylor A n coefficient d (omega4 A n minus_half c adjoint_sign τ P1 P2) w) v
    step-adjoint =
        taylor-adjoint (omega4 A n minus_half c sign τ P1 P2) (omega4 A n minus_half c adjoint_sign τ P1 P2) omega4-adjoint
