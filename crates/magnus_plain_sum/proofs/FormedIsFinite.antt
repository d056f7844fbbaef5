-- What "every number formed is finite" (specs/Formed.antt) comes to. An operation gives a finite result of finite
-- operands only. So for the row product it says that the product is finite, and for the order-4 step with such
-- products, on one node or more, that the answer is. (Not so for the weighted step, nor for that of order 6: a number
-- root · v, or one of B2 v, at a node that no column names does not reach the answer.) Assumes nothing.
use mathlib.Core.Logic.{◌↔◌}
use mathlib.Core.List.{List}
use Prim.Native.Nat.{ℕ, zero, suc, ◌<◌}
use lib.Dec.{T}
use lib.Ieee.{Float, Format}
use lib.Ieee.Scale.{finite}
use Rattle.rounding.specs.StepLength.{minus_half}
use Rattle.rounding.proofs.Finite.{finite-of-add, finite-of-mul}
use Rattle.arithmetic.specs.Arithmetic.{ieee, ieee-zero, vectors, scaled}
use Rattle.arithmetic.specs.Product.{sum_to, entries, row_sum, row_product}
use Rattle.arithmetic.proofs.Product.{at-tabulate}
use Rattle.magnus.specs.Operators.{omega4}
use Rattle.magnus_plain_sum.specs.Formed.{FormedOperator, finite_vector, formed_sum, formed_row, formed_product}
use Rattle.magnus_plain_sum.specs.Formed.{formed_omega4, formed_step4}
use Rattle.magnus_plain_sum.proofs.Formed.{and_is, every-place-is, finite-vector-is, finite-tabulate}
use Rattle.magnus_plain_sum.proofs.Formed.{finite-of-sum, finite-of-difference, finite-of-multiple, finite-factor}
use Rattle.magnus_plain_sum.proofs.Formed.{taylor-formed-finite, formed-by-result}

-- ---- the row product

formed-sum-is : (f : Format) (g : ℕ → Float) (m : ℕ) → T (formed_sum f g m) ↔ T (finite (sum_to (ieee f) g m))
unfolding formed_sum sum_to
formed-sum-is f g m = (result m, by_result m)
  where
    result : (m : ℕ) → T (formed_sum f g m) → T (finite (sum_to (ieee f) g m))
    result zero t = rw (ieee-zero f) tt
    result (suc m) t = (simp and_is at t).1

    by_result : (m : ℕ) → T (finite (sum_to (ieee f) g m)) → T (formed_sum f g m)
    by_result zero t = tt
    by_result (suc m) t =
        let parts = finite-of-add f (sum_to (ieee f) g m) (g m) t in
        simp and_is ((by_result m parts.0, parts.1), t)

pub formed-product-is : (f : Format) (n : ℕ) (starts cols : List ℕ) (vals x : List Float)
    → T ((formed_product f n starts cols vals).formed x) ↔ T (finite_vector n (row_product (ieee f) n starts cols vals x))
unfolding formed_row row_sum entries
formed-product-is f n starts cols vals x =
    let product = row_product (ieee f) n starts cols vals x in (
      λ t. (finite-vector-is n product).1 (λ i l.
          rw (at-tabulate (ieee f) (row_sum (ieee f) starts cols vals x) n i l)
          ((formed-sum-is f _ _).0 ((every-place-is _ n).0 t i l))),
      λ t. (every-place-is _ n).1 (λ i l. (formed-sum-is f _ _).1 (finite-tabulate n _ t i l)),
    )

-- ---- order 4

-- a finite result shows that every number that W formed was finite
abbrev pub ShownByResult : ℕ → FormedOperator → Type 0
ShownByResult n W = (u : List Float) → T (finite_vector n (W.apply u)) → T (W.formed u)

module _ (f : Format) (n : ℕ) (node : 0 < n) (P1 P2 : FormedOperator)
    (shown1 : ShownByResult n P1) (shown2 : ShownByResult n P2) where
  open ieee f use {◌*◌}
  open vectors (ieee f) n use {◌+◌ as ◌⊕◌, ◌-◌ as ◌⊖◌}

  infixl 60 ◌⊕◌ ◌⊖◌
  infixr 65 ◌·◌
  infixl 70 ◌*◌
  abbrev ◌·◌ : Float → List Float → List Float
  ◌·◌ = scaled (ieee f) n

  omega4-by-result : (s sign τ : Float) → ShownByResult n (formed_omega4 f n minus_half s sign τ P1 P2)
  unfolding omega4
  omega4-by-result s sign τ v t =
      let a = P1.apply v in
      let b = P2.apply v in
      let p = P2.apply a in
      let q = P1.apply b in
      let half = minus_half * τ in
      let factor = sign * s * τ * τ in
      let terms = finite-of-sum f n (half · (a ⊕ b)) (factor · (p ⊖ q)) t in
      let sum = finite-of-multiple f n half (a ⊕ b) terms.0 in
      let difference = finite-of-multiple f n factor (p ⊖ q) terms.1 in
      let first = finite-of-sum f n a b sum in
      let second = finite-of-difference f n p q difference in
      let finite-half = finite-factor f n node half (a ⊕ b) terms.0 in
      let finite-τ² = finite-factor f n node factor (p ⊖ q) terms.1 in
      let finite-τ = (finite-of-mul f (sign * s * τ) τ finite-τ²).0 in
      let finite-s = (finite-of-mul f (sign * s) τ finite-τ).0 in
      simp and_is (
        (((finite-half, finite-s), finite-τ), finite-τ²),
        (
          (
            (((shown1 v first.0, shown2 v first.1), sum), terms.0),
            (
              (
                ((shown1 v first.0, shown2 a second.0), (shown2 v first.1, shown1 b second.1)),
                difference,
              ),
              terms.1,
            ),
          ),
          t,
        ),
      )

  -- the step of degree 1 or more
  pub formed-step4-is : (c : ℕ → Float) (d : ℕ) (s sign τ : Float) (v : List Float)
      → let step4 = formed_step4 f n c (suc d) s sign τ P1 P2 in
      T (step4.formed v) ↔ T (finite_vector n (step4.apply v))
  formed-step4-is c d s sign τ v =
      let Ω = formed_omega4 f n minus_half s sign τ P1 P2 in
      (taylor-formed-finite f n c d Ω v, formed-by-result f n c (suc d) Ω v (omega4-by-result s sign τ))
