-- Demand 3 for an order-6 step: where the samples agree it is the plain sum, up to the sign of a zero, for any τ. The
-- differences of products that agree vanish, and with them B2, B3, C1 and C2. Of the last commutator [L, R], where
-- R = B2 + C2 vanishes, L R vanishes too, since L takes zeros to zeros. So Ω is B1 = (-τ) P2, up to zeros that are added.
-- Assumes nothing.
use mathlib.Core.Path.{◌≡◌, refl, sym, ap}
use mathlib.Core.Bool.{Bool, true, false, not}
use mathlib.Core.List.{List}
use Prim.Native.Nat.{ℕ}
use lib.Dec.{T}
use lib.Ieee.{Float, nan, inf, fin, Format, unlike, neg, mul}
use lib.Ieee.Fits.{add-fits, mul-fits, and_r}
use Rattle.rounding.proofs.Same.{same_refl, same-sym, same-trans, same-equal, mul-same, neg_same}
use Rattle.arithmetic.specs.Arithmetic.{ieee, vectors, scaled}
use Rattle.arithmetic.specs.SameList.{SameList}
use Rattle.arithmetic.proofs.Product.{at-tabulate}
use Rattle.arithmetic.proofs.UpToZero.{same-list-equal, same-list-sym, same-list-trans, tabulate-same-list}
use Rattle.magnus_plain_sum.specs.PlainSum.{plain_sum}
use Rattle.magnus.specs.OperatorArithmetic.{OperatorArithmetic}
use Rattle.magnus.specs.Omega6.{Constants6, b1, b2, second_difference, b3, c1, two_b3_plus_c1, two_b3_plus_c1_of_b1}
use Rattle.magnus.specs.Omega6.{c2, lop, rop, omega6}
use Rattle.magnus_plain_sum.specs.Agree.{SamplesAgree, OfFormat, ProductsAgree}
use Rattle.magnus_plain_sum.specs.Formed.{FormedOperator, formed_operators, formed_product}
use Rattle.magnus_plain_sum.specs.FormedOmega6.{formed_factors6, formed_omega6, formed_step6}
use Rattle.magnus_plain_sum.specs.FormedOmega6.{formed-omega6-apply}
use Rattle.magnus_plain_sum.proofs.Agree.{samples-products-agree}
use Rattle.magnus_plain_sum.proofs.FormedZeros.{Vanishes, KeepsZeros, add-zero-vector, formed-terms, sum-zero, difference-zero}
use Rattle.magnus_plain_sum.proofs.FormedZeros.{multiple-zero, after-zero, vanishing-zero, vanishing-after}
use Rattle.magnus_plain_sum.proofs.FormedZeros.{products-difference, products-second-difference, product-keeps-zeros}
use Rattle.magnus_plain_sum.proofs.PlainSum.{taylor-plain-sum}

-- (-x) y is x (-y)
unlike-not : (s t : Bool) → unlike (not s) t ≡ unlike s (not t)
unlike-not true true = refl
unlike-not true false = refl
unlike-not false true = refl
unlike-not false false = refl

neg-mul : (f : Format) (x y : Float) → mul f (neg x) y ≡ mul f x (neg y)
unfolding mul neg
neg-mul f nan y = refl
neg-mul f (inf s) nan = refl
neg-mul f (inf s) (inf t) = rw (unlike-not s t)
neg-mul f (inf s) (fin t m e) = rw (unlike-not s t)
neg-mul f (fin s m e) nan = refl
neg-mul f (fin s m e) (inf t) = rw (unlike-not s t)
neg-mul f (fin s m e) (fin t l d) = rw (unlike-not s t)

module _ (f : Format) (n : ℕ) where
  open vectors (ieee f) n use { -◌ as ⊖◌}

  infixr 65 ◌·◌
  infix 80 ⊖◌
  abbrev ◌·◌ : Float → List Float → List Float
  ◌·◌ = scaled (ieee f) n

  module _ (k : Constants6 Float) (τ : Float) (P1 P2 P3 : FormedOperator)
      (agreed2 : ProductsAgree f P1.apply P2.apply) (agreed3 : ProductsAgree f P1.apply P3.apply)
      (keeps : KeepsZeros f n P2) where
    abbrev S : OperatorArithmetic Float FormedOperator
    S = formed_operators f n

    open S.operators use {◌+◌, ◌-◌, ◌*◌ as ◌∘◌}

    infixl 60 ◌+◌ ◌-◌
    infixr 75 ◌∘◌
    abbrev B1 : FormedOperator
    B1 = b1 S k τ P1 P2 P3

    abbrev L : FormedOperator
    L = lop S k τ P1 P2 P3

    abbrev R : FormedOperator
    R = rop S k τ P1 P2 P3

    -- what is added to B1: B3/12 and the last commutator
    abbrev second : FormedOperator
    second = S.scale k.one_over12 (b3 S k τ P1 P2 P3)

    abbrev third : FormedOperator
    third = S.scale k.one_over240 (L ∘ R - R ∘ L)

    -- ---- what vanishes

    b1-keeps : KeepsZeros f n (b1 S k τ P1 P2 P3)
    unfolding b1
    b1-keeps = multiple-zero f n _ keeps

    b2-vanishes : Vanishes f n (b2 S k τ P1 P2 P3)
    unfolding b2
    b2-vanishes = multiple-zero f n _ (products-difference f n P1 P3 agreed3)

    second-difference-vanishes : Vanishes f n (second_difference S k τ P1 P2 P3)
    unfolding second_difference
    second-difference-vanishes = products-second-difference f n P1 P2 P3 agreed2 agreed3

    b3-vanishes : Vanishes f n (b3 S k τ P1 P2 P3)
    unfolding b3
    b3-vanishes = multiple-zero f n _ second-difference-vanishes

    c1-vanishes : Vanishes f n (c1 S k τ P1 P2 P3)
    unfolding c1
    c1-vanishes = difference-zero f n (after-zero f n b1-keeps b2-vanishes) (vanishing-after f n B1 b2-vanishes)

    two-b3-plus-c1-vanishes : Vanishes f n (two_b3_plus_c1 S k τ P1 P2 P3)
    unfolding two_b3_plus_c1
    two-b3-plus-c1-vanishes = sum-zero f n (sum-zero f n b3-vanishes b3-vanishes) c1-vanishes

    of-b1-vanishes : Vanishes f n (two_b3_plus_c1_of_b1 S k τ P1 P2 P3)
    unfolding two_b3_plus_c1_of_b1
    of-b1-vanishes =
        sum-zero f n (multiple-zero f n _ (vanishing-after f n B1 second-difference-vanishes))
        (difference-zero f n (after-zero f n b1-keeps (vanishing-after f n B1 b2-vanishes))
        (multiple-zero f n _ (vanishing-after f n (P2 ∘ B1) (products-difference f n P1 P3 agreed3))))

    c2-vanishes : Vanishes f n (c2 S k τ P1 P2 P3)
    unfolding c2
    c2-vanishes =
        multiple-zero f n _ (difference-zero f n (after-zero f n b1-keeps two-b3-plus-c1-vanishes) of-b1-vanishes)

    lop-keeps : KeepsZeros f n (lop S k τ P1 P2 P3)
    unfolding lop
    lop-keeps =
        sum-zero f n (difference-zero f n (multiple-zero f n _ b1-keeps) (vanishing-zero f n b3-vanishes))
        (vanishing-zero f n c1-vanishes)

    rop-vanishes : Vanishes f n (rop S k τ P1 P2 P3)
    unfolding rop
    rop-vanishes = sum-zero f n b2-vanishes c2-vanishes

    -- ---- Ωv

    -- B1 v is τ · (-(P1 v))
    b1-plain : (v v' : List Float)
        → SameList v v'
        → SameList ((b1 S k τ P1 P2 P3).apply v) (τ · ⊖ P1.apply v')
    unfolding b1
    b1-plain v v' r =
        tabulate-same-list _ _ n (λ i l. simp at-tabulate
        (same-trans (same-equal (neg-mul f τ _))
        (mul-same f (same_refl τ) (neg_same (same-sym ((agreed2.both (same-list-sym r)).places i))))))

    -- Ωv is τ · (-(P1 v)), where every number formed is finite
    pub omega6-plain : (v v' : List Float)
        → SameList v v'
        → T ((formed_omega6 f n k τ P1 P2 P3).formed v)
        → SameList ((formed_omega6 f n k τ P1 P2 P3).apply v) (τ · ⊖ P1.apply v')
    unfolding omega6 b1
    omega6-plain v v' r t =
        let formed = and_r (formed_factors6 f k τ) ((omega6 S k τ P1 P2 P3).formed v) t in
        let all = formed-terms f n (B1 + second) third v formed in
        let two = formed-terms f n B1 second v all.0 in
        let second-zero = (multiple-zero f n k.one_over12 b3-vanishes).gives tt two.1 in
        let third-zero =
        (multiple-zero f n k.one_over240
        (difference-zero f n (after-zero f n lop-keeps rop-vanishes) (vanishing-after f n L rop-vanishes))).gives tt all.1 in
        same-list-trans (same-list-equal (ap (λ X. X v) (sym (formed-omega6-apply f n k τ P1 P2 P3))))
        (same-list-trans (add-zero-vector f n _ (λ i. add-fits f _ _) third-zero)
        (same-list-trans (add-zero-vector f n _ (λ i. mul-fits f _ _) second-zero) (b1-plain v v' r)))

    -- the step is the plain sum, where every number formed is finite (demand 3)
    pub step6-plain-sum : (c : ℕ → Float) (d : ℕ) {v v' : List Float}
        → SameList v v'
        → let step6 = formed_step6 f n c d k τ P1 P2 P3 in
        T (step6.formed v) → SameList (step6.apply v) (plain_sum (ieee f) n c d τ P1.apply v')
    step6-plain-sum c d r t =
        taylor-plain-sum f n τ P1.apply (formed_omega6 f n k τ P1 P2 P3) omega6-plain c d r t

  -- with samples that agree (01, part 9)
  pub samples6-plain-sum : (k : Constants6 Float) (τ : Float)
      {starts1 cols1 starts2 cols2 starts3 cols3 : List ℕ} {vals1 vals2 vals3 : List Float}
      → SamplesAgree starts1 cols1 vals1 starts2 cols2 vals2
      → SamplesAgree starts1 cols1 vals1 starts3 cols3 vals3
      → OfFormat f vals1
      → OfFormat f vals2
      → OfFormat f vals3
      → (c : ℕ → Float) (d : ℕ) {v v' : List Float}
      → SameList v v'
      → let P1 = formed_product f n starts1 cols1 vals1 in
      let P2 = formed_product f n starts2 cols2 vals2 in
      let P3 = formed_product f n starts3 cols3 vals3 in
      let step6 = formed_step6 f n c d k τ P1 P2 P3 in
      T (step6.formed v) → SameList (step6.apply v) (plain_sum (ieee f) n c d τ P1.apply v')
  samples6-plain-sum k τ {starts1} {cols1} {starts2} {cols2} {starts3} {cols3} {vals1} {vals2} {vals3}
      agreed2 agreed3 format1 format2 format3 =
      step6-plain-sum k τ (formed_product f n starts1 cols1 vals1) (formed_product f n starts2 cols2 vals2)
      (formed_product f n starts3 cols3 vals3) (samples-products-agree f n agreed2 format1 format2)
      (samples-products-agree f n agreed3 format1 format3) (product-keeps-zeros f n starts2 cols2 vals2)
