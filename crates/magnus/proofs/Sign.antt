-- The sign of the commutator. Over exact numbers, for linear products P1 and P2, the formula of order 4 that the code
-- computes (01, part 6) is the published one with A1 = -P1 and A2 = -P2. Linearity makes the negatives inside [A1, A2]
-- cancel; what is left is the same sum of products at each place. Assumes nothing.
use mathlib.Core.Path.{◌≡◌, ap, ◌∙◌}
use mathlib.Core.List.{List}
use Prim.Native.Nat.{ℕ}
use Rattle.arithmetic.specs.Arithmetic.{Arithmetic}
use Rattle.arithmetic.proofs.Tabulate.{tabulate-same}
use Rattle.arithmetic.proofs.Product.{at-tabulate}
use Rattle.magnus.specs.Operators.{Operator, omega4}
use Rattle.magnus.specs.Ring.{Ring, Linear}
use Rattle.magnus.specs.OperatorArithmetic.{operators}
use Rattle.magnus.specs.Published.{commutator, order4, order4_adjoint, AsPublished}
use Rattle.magnus.proofs.Vectors.{neg-neg, neg-add, mul-neg, neg-mul, linear-neg}

-- the negatives of two linear operators have the commutator of the two: [-P1, -P2] = [P1, P2]
module _ {K : Type 0} {A : Arithmetic K} (R : Ring A) (n : ℕ) (P1 P2 : Operator A n) where
  open operators A n use { -◌ as minus}

  pub commutator-minus : Linear A n P1 → Linear A n P2
      → (v : List K) → commutator A n (minus P1) (minus P2) v ≡ commutator A n P1 P2 v
  unfolding commutator
  commutator-minus linear1 linear2 v =
      rw (linear-neg R n P1 linear1, linear-neg R n P2 linear2)
      (tabulate-same _ _ n (λ i h. simp (at-tabulate A, neg-neg R)))

module _ {K : Type 0} {A : Arithmetic K} (R : Ring A) (n : ℕ) (half c τ : K) where
  open A use {◌*◌, -◌}
  open operators A n use { -◌ as minus}
  open R use {add_comm, sub-eq-add-neg, mul_assoc, mul-add}

  infixl 70 ◌*◌
  infix 80 -◌
  -- ---- the published formulas, for any operators A1 and A2
  module _ (A1 A2 : Operator A n) (v : List K) where
    -- with -c for c the exponent is the adjoint one
    pub order4-minus : order4 A n half (- c) τ A1 A2 v ≡ order4_adjoint A n half c τ A1 A2 v
    unfolding order4 order4_adjoint
    order4-minus = tabulate-same _ _ n (λ i h. simp (at-tabulate A, sub-eq-add-neg, neg-neg R, neg-mul R))

    -- the adjoint exponent is the exponent with the samples exchanged, since [A2, A1] = -[A1, A2]
    pub order4-exchanged : order4_adjoint A n half c τ A1 A2 v ≡ order4 A n half c τ A2 A1 v
    unfolding order4 order4_adjoint commutator
    order4-exchanged =
        tabulate-same _ _ n
        (λ i h. simp (at-tabulate A, sub-eq-add-neg, neg-add R, neg-neg R, mul-neg R, mul-add, add_comm))

  -- ---- Ωv of order 4
  module _ (P1 P2 : Operator A n) (linear1 : Linear A n P1) (linear2 : Linear A n P2) where
    -- for any factor `sign` Ωv is the published exponent with sign * c for c
    omega4-sign : (sign : K) (v : List K)
        → omega4 A n (- half) c sign τ P1 P2 v ≡ order4 A n half (sign * c) τ (minus P1) (minus P2) v
    unfolding omega4 order4 commutator
    omega4-sign sign v =
        rw (commutator-minus R n P1 P2 linear1 linear2 v)
        (tabulate-same _ _ n
        (λ i h.
        simp (at-tabulate A, sub-eq-add-neg, neg-add R, neg-neg R, neg-mul R, mul-neg R, mul-add, mul_assoc, add_comm)))

    -- forward sign * c is c, adjoint it is -c
    omega4-factor : (sign k : K) → sign * c ≡ k → (v : List K)
        → omega4 A n (- half) c sign τ P1 P2 v ≡ order4 A n half k τ (minus P1) (minus P2) v
    omega4-factor sign k h v = omega4-sign sign v ∙ ap (λ x. order4 A n half x τ (minus P1) (minus P2) v) h

    pub omega4-as-published : AsPublished A n half c τ P1 P2
    omega4-as-published = record {
      forward = λ sign one. omega4-factor sign c (one c);
      adjoint = λ sign minus_one v.
          omega4-factor sign (- c) (minus_one c) v ∙ order4-minus (minus P1) (minus P2) v;
      adjoint-exchanged = λ sign minus_one v.
          omega4-factor sign (- c) (minus_one c) v ∙ order4-minus (minus P1) (minus P2) v
          ∙ order4-exchanged (minus P1) (minus P2) v;
    }
