-- Demand 3 for the order-4 step: where the samples agree it is the plain sum, up to the sign of a zero. At one node Ωv
-- is (-0.5 τ) (y + y') + c (p - p'), where y and y' are the same and p and p' are. Then p - p' is a zero, c times it is
-- a zero, and adding that changes nothing. y + y' is exactly twice y, and -0.5 τ exactly half of τ, negated. So Ωv is
-- τ (-y), the plain sum's next term, and so it goes on through the Taylor sum.
-- The plain sum may start from a signal that differs in the signs of zeros, so that step can follow step.
-- Assumes nothing.
use mathlib.Core.List.{List}
use Prim.Native.Nat.{ℕ, zero, suc}
use lib.Dec.{T}
use lib.Ieee.{Float, Format, fits}
use lib.Ieee.Fits.{mul-fits}
use lib.Ieee.Scale.{finite}
use Rattle.rounding.specs.SignOfZero.{Same}
use Rattle.rounding.specs.StepLength.{step_length, minus_half}
use Rattle.rounding.proofs.Same.{same_refl, same-sym, same-trans, same-equal, add_same, mul-same, neg_same}
use Rattle.rounding.proofs.Finite.{finite-of-add, finite-of-sub, finite-of-mul, same-finite}
use Rattle.rounding.proofs.Zeros.{sub-same-zero, mul-zero-right, add-zero-right}
use Rattle.rounding.proofs.Halving.{half-times-twice}
use Rattle.arithmetic.specs.Arithmetic.{ieee, vectors, scaled}
use Rattle.arithmetic.specs.Product.{row_product}
use Rattle.arithmetic.specs.SameList.{SameList}
use Rattle.arithmetic.proofs.Product.{at-tabulate}
use Rattle.arithmetic.proofs.UpToZero.{same-list-refl, same-list-sym, tabulate-same-list}
use Rattle.arithmetic.proofs.UpToZero.{add-same-list, scaled-same-list}
use Rattle.magnus.specs.Operators.{omega4, power, taylor}
use Rattle.magnus_plain_sum.specs.PlainSum.{plain_term, plain_sum}
use Rattle.magnus_plain_sum.specs.Agree.{SamplesAgree, OfFormat, ProductsAgree}
use Rattle.magnus_plain_sum.specs.Formed.{FormedOperator, finite_vector, formed_product, formed_weighted}
use Rattle.magnus_plain_sum.specs.Formed.{formed_omega4, formed_terms, formed_taylor, formed_step4}
use Rattle.magnus_plain_sum.proofs.Agree.{samples-products-agree, weighted-products-agree}
use Rattle.magnus_plain_sum.proofs.Formed.{and_is, finite-tabulate, omega4-formed-finite, formed-by-result}

-- ---- Ωv at one node

module _ (f : Format) where
  open ieee f use {◌+◌, ◌-◌, ◌*◌, -◌}

  infixl 60 ◌+◌ ◌-◌
  infixl 70 ◌*◌
  infix 80 -◌
  -- (-0.5 τ) (y + y') + c (p - p') is τ (-y), where it is finite
  half-sum-plus-zero : (τ c : Float) {y y' p p' : Float}
      → T (fits f τ)
      → T (step_length f τ)
      → T (fits f y)
      → Same y y'
      → Same p p'
      → T (finite (minus_half * τ * (y + y') + c * (p - p')))
      → Same (minus_half * τ * (y + y') + c * (p - p')) (τ * - y)
  half-sum-plus-zero τ c {y} {y'} {p} {p'} fitsτ step fitsy ys ps t =
      let half = minus_half * τ in
      let terms = finite-of-add f (half * (y + y')) (c * (p - p')) t in
      let first = finite-of-mul f half (y + y') terms.0 in
      let second = finite-of-mul f c (p - p') terms.1 in
      let twice : Same (y + y') (y + y) = add_same f (same_refl y) (same-sym ys) in
      let vanishes = mul-zero-right f c second.0 (sub-same-zero f (finite-of-sub f p p' second.1).0 ps) in
      let finite-τ = (finite-of-mul f minus_half τ first.0).1 in
      same-trans (add-zero-right f (mul-fits f half (y + y')) vanishes)
      (same-trans (mul-same f (same_refl half) twice)
      (same-equal (half-times-twice f τ y fitsτ fitsy step finite-τ (same-finite twice first.1))))

module _ (f : Format) (n : ℕ) where
  open vectors (ieee f) n use { -◌ as ⊖◌}

  infixr 65 ◌·◌
  infix 80 ⊖◌
  abbrev ◌·◌ : Float → List Float → List Float
  ◌·◌ = scaled (ieee f) n

  -- ---- Taylor sums, for an exponent of any order

  -- The Taylor sum over W is the plain sum, if W u is τ · (-(P u)) wherever every number that W forms of u is finite.
  module _ (τ : Float) (P : List Float → List Float) (W : FormedOperator)
      (exponent : (u u' : List Float) → SameList u u' → T (W.formed u) → SameList (W.apply u) (τ · ⊖ P u')) where
    sums-and-powers : (c : ℕ → Float) (d : ℕ) {v v' : List Float}
        → SameList v v'
        → T (formed_terms f n c d W v)
        → SameList (taylor (ieee f) n c d W.apply v) (plain_sum (ieee f) n c d τ P v')
        × SameList (power (ieee f) n W.apply d v) (plain_term (ieee f) n τ P d v')
    unfolding formed_terms taylor power plain_sum plain_term
    sums-and-powers c zero r t = (r, r)
    sums-and-powers c (suc d) r t =
        let parts = (simp and_is at t) in
        let before = sums-and-powers c d r parts.0.0.0 in
        let next = exponent _ _ before.1 parts.0.0.1 in
        (add-same-list f n before.0 (scaled-same-list f n (same_refl (c (suc d))) next), next)

    pub taylor-plain-sum : (c : ℕ → Float) (d : ℕ) {v v' : List Float}
        → SameList v v'
        → T ((formed_taylor f n c d W).formed v)
        → SameList ((formed_taylor f n c d W).apply v) (plain_sum (ieee f) n c d τ P v')
    taylor-plain-sum c d r t = (sums-and-powers c d r t).0

  -- ---- order 4

  module _ (s sign τ : Float) (fitsτ : T (fits f τ)) (step : T (step_length f τ)) where
    -- Ωv is τ · (-(P1 v)), where it is finite
    pub omega4-plain : {P1 P2 : List Float → List Float}
        → ProductsAgree f P1 P2
        → (v v' : List Float)
        → SameList v v'
        → T (finite_vector n (omega4 (ieee f) n minus_half s sign τ P1 P2 v))
        → SameList (omega4 (ieee f) n minus_half s sign τ P1 P2 v) (τ · ⊖ P1 v')
    unfolding omega4
    omega4-plain {P1} {P2} R v v' r t =
        let ys = R.both (same-list-refl v) in
        let ps = same-list-sym (R.both (same-list-sym ys)) in
        tabulate-same-list _ _ n (λ i l. simp at-tabulate
        (same-trans
        (half-sum-plus-zero f τ _ fitsτ step (R.of_format v i) (ys.places i) (ps.places i)
        (simp at-tabulate at (finite-tabulate n _ t i l)))
        (mul-same f (same_refl τ) (neg_same ((R.first r).places i)))))

    -- the step is the plain sum, where its answer is finite
    pub step4-plain-sum-if-finite : {P1 P2 : List Float → List Float}
        → ProductsAgree f P1 P2
        → (c : ℕ → Float) (d : ℕ) {v v' : List Float}
        → SameList v v'
        → let answer = taylor (ieee f) n c d (omega4 (ieee f) n minus_half s sign τ P1 P2) v in
        T (finite_vector n answer) → SameList answer (plain_sum (ieee f) n c d τ P1 v')
    step4-plain-sum-if-finite {P1} {P2} R c d {v} r t =
        let Ω = omega4 (ieee f) n minus_half s sign τ P1 P2 in
        let W : FormedOperator = record { apply = Ω; formed = λ u. finite_vector n (Ω u) } in
        taylor-plain-sum τ P1 W (omega4-plain R) c d r (formed-by-result f n c d W v (λ u h. h) t)

    -- the step is the plain sum, where every number formed is finite (demand 3)
    pub step4-plain-sum : (P1 P2 : FormedOperator)
        → ProductsAgree f P1.apply P2.apply
        → (c : ℕ → Float) (d : ℕ) {v v' : List Float}
        → SameList v v'
        → let step4 = formed_step4 f n c d s sign τ P1 P2 in
        T (step4.formed v) → SameList (step4.apply v) (plain_sum (ieee f) n c d τ P1.apply v')
    step4-plain-sum P1 P2 R c d r t =
        taylor-plain-sum τ P1.apply (formed_omega4 f n minus_half s sign τ P1 P2)
        (λ u u' q h. omega4-plain R u u' q (omega4-formed-finite f n minus_half s sign τ P1 P2 u h)) c d r t

    -- ---- with samples that agree

    module _ {starts1 cols1 starts2 cols2 : List ℕ} {vals1 vals2 : List Float}
        (agreed : SamplesAgree starts1 cols1 vals1 starts2 cols2 vals2)
        (format1 : OfFormat f vals1) (format2 : OfFormat f vals2)
        (c : ℕ → Float) (d : ℕ) {v v' : List Float} (r : SameList v v') where
      products : ProductsAgree f (row_product (ieee f) n starts1 cols1 vals1) (row_product (ieee f) n starts2 cols2 vals2)
      products = samples-products-agree f n agreed format1 format2

      -- the step, forward and adjoint (01, parts 6 and 8)
      pub samples-plain-sum :
          let P1 = formed_product f n starts1 cols1 vals1 in
          let P2 = formed_product f n starts2 cols2 vals2 in
          let step4 = formed_step4 f n c d s sign τ P1 P2 in
          T (step4.formed v) → SameList (step4.apply v) (plain_sum (ieee f) n c d τ P1.apply v')
      samples-plain-sum =
          step4-plain-sum (formed_product f n starts1 cols1 vals1) (formed_product f n starts2 cols2 vals2) products c d r

      -- the weighted step (01, part 7), with roots that agree
      pub weighted-samples-plain-sum : (root1 root2 : List Float)
          → SameList root1 root2
          → let P1 = formed_weighted f n root1 (formed_product f n starts1 cols1 vals1) in
          let P2 = formed_weighted f n root2 (formed_product f n starts2 cols2 vals2) in
          let step4 = formed_step4 f n c d s sign τ P1 P2 in
          T (step4.formed v) → SameList (step4.apply v) (plain_sum (ieee f) n c d τ P1.apply v')
      weighted-samples-plain-sum root1 root2 q =
          step4-plain-sum (formed_weighted f n root1 (formed_product f n starts1 cols1 vals1))
          (formed_weighted f n root2 (formed_product f n starts2 cols2 vals2))
          (weighted-products-agree f n q products) c d r
