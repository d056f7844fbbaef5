-- Where the samples agree the commutator vanishes: L2 (L1 v) - L1 (L2 v) is a zero at each node, if L2 (L1 v) is finite
-- (01, part 6 and "Which form goes where"). For products that agree up to the sign of a zero it is a zero of either
-- sign, since -0 - +0 is -0. For the products with samples that agree it is +0: the sum of a row starts from +0 and is
-- never -0, so the two products are equal. So with weights, where both samples have the same roots. Assumes nothing.
use mathlib.Core.Path.{◌≡◌, sym, ap, ap₂, ◌∙◌, subst}
use mathlib.Core.List.{List}
use Prim.Native.Nat.{ℕ, zero, suc}
use lib.Dec.{T}
use lib.ListN.{get_or}
use lib.Ieee.{Float, nan, Format, fits}
use lib.Ieee.Fits.{mul-fits}
use Rattle.rounding.proofs.Same.{same-trans, same-equal}
use Rattle.rounding.proofs.Zeros.{sub-self-zero, sub-same-zero}
use Rattle.arithmetic.specs.Arithmetic.{ieee, ieee-zero, vectors}
use Rattle.arithmetic.specs.Product.{sum_to, entries, row_sum, row_product}
use Rattle.arithmetic.specs.SameList.{SameList}
use Rattle.arithmetic.proofs.Tabulate.{tabulate-same}
use Rattle.arithmetic.proofs.UpToZero.{same-list-refl, same-list-sym, tabulate-same-list, row-sum-same}
use Rattle.magnus.specs.Operators.{weighted}
use Rattle.magnus_plain_sum.specs.Agree.{ProductsAgree, SamplesAgree, OfFormat}
use Rattle.magnus_plain_sum.specs.Formed.{finite_vector}
use Rattle.magnus_plain_sum.proofs.Agree.{agree_same, sum_fits}
use Rattle.magnus_plain_sum.proofs.Formed.{finite-vector-is}
use Rattle.rounding.proofs.MinusZero.{MinusZero, add-not-minus-zero, same-not-minus-zero}

module _ (f : Format) (n : ℕ) where
  open vectors (ieee f) n use {zero as zeros, ◌-◌ as ◌⊖◌}

  infixl 60 ◌⊖◌
  -- ---- products that agree

  -- up to the sign of a zero: the commutator is a zero at each place
  pub commutator-zero : {P1 P2 : List Float → List Float}
      → ProductsAgree f P1 P2
      → (v : List Float)
      → T (finite_vector n (P2 (P1 v)))
      → SameList (P2 (P1 v) ⊖ P1 (P2 v)) zeros
  commutator-zero {P1} {P2} R v t =
      let first = R.both (same-list-refl v) in
      let second = same-list-sym (R.both (same-list-sym first)) in
      tabulate-same-list _ _ n (λ i l.
      same-trans (sub-same-zero f ((finite-vector-is n (P2 (P1 v))).0 t i l) (second.places i))
      (same-equal (sym (ieee-zero f))))

  -- with equal results: the commutator is +0 at each place
  pub commutator-plus-zero : (P1 P2 : List Float → List Float)
      → ((x : List Float) → P1 x ≡ P2 x)
      → (v : List Float)
      → T (finite_vector n (P2 (P1 v)))
      → P2 (P1 v) ⊖ P1 (P2 v) ≡ zeros
  commutator-plus-zero P1 P2 equal v t =
      let crossed : P1 (P2 v) ≡ P2 (P1 v) = equal (P2 v) ∙ ap P2 (sym (equal v)) in
      rw crossed (tabulate-same _ _ n (λ i l.
      sub-self-zero f (get_or (P2 (P1 v)) i nan) ((finite-vector-is n (P2 (P1 v))).0 t i l) ∙ sym (ieee-zero f)))

-- ---- samples that agree

-- a sum from +0 is never -0
sum-not-minus-zero : (f : Format) (g : ℕ → Float) (m : ℕ)
    → ((j : ℕ) → T (fits f (g j)))
    → MinusZero (sum_to (ieee f) g m)
    → ⊥
unfolding sum_to
sum-not-minus-zero f g zero h z = subst MinusZero (ieee-zero f) z
sum-not-minus-zero f g (suc m) h z =
    add-not-minus-zero f (sum_to (ieee f) g m) (g m) (sum_fits f g m) (h m) (sum-not-minus-zero f g m h) z

-- so the signs of zeros among the values and in the signal do not show in a row product
pub row-product-equal : (f : Format) (n : ℕ) (starts cols : List ℕ) {vals1 vals2 x y : List Float}
    → SameList vals1 vals2
    → SameList x y
    → row_product (ieee f) n starts cols vals1 x ≡ row_product (ieee f) n starts cols vals2 y
unfolding row_sum entries
row-product-equal f n starts cols p q =
    tabulate-same _ _ n (λ i l.
    same-not-minus-zero f (sum_fits f _ _) (sum_fits f _ _)
    (sum-not-minus-zero f _ _ (λ j. mul-fits f _ _)) (sum-not-minus-zero f _ _ (λ j. mul-fits f _ _))
    (row-sum-same f cols p q starts i))

module _ (f : Format) (n : ℕ) {starts1 cols1 starts2 cols2 : List ℕ} {vals1 vals2 : List Float}
    (agreed : SamplesAgree starts1 cols1 vals1 starts2 cols2 vals2)
    (format1 : OfFormat f vals1) (format2 : OfFormat f vals2) where
  open vectors (ieee f) n use {zero as zeros, ◌-◌ as ◌⊖◌}

  infixl 60 ◌⊖◌
  products-equal : (x : List Float)
      → row_product (ieee f) n starts1 cols1 vals1 x ≡ row_product (ieee f) n starts2 cols2 vals2 x
  products-equal x =
      row-product-equal f n starts1 cols1 (agree_same f vals1 vals2 format1 format2 agreed.vals) (same-list-refl x)
      ∙ ap₂ (λ (starts cols : List ℕ). row_product (ieee f) n starts cols vals2 x) agreed.starts agreed.cols

  -- the commutator of the products with samples that agree is +0 at each node
  pub samples-commutator : (v : List Float)
      → let L1 = row_product (ieee f) n starts1 cols1 vals1 in
      let L2 = row_product (ieee f) n starts2 cols2 vals2 in
      T (finite_vector n (L2 (L1 v))) → L2 (L1 v) ⊖ L1 (L2 v) ≡ zeros
  samples-commutator v t =
      commutator-plus-zero f n (row_product (ieee f) n starts1 cols1 vals1) (row_product (ieee f) n starts2 cols2 vals2)
      products-equal v t

  -- and of the weighted products with the same roots
  pub weighted-samples-commutator : (root v : List Float)
      → let L1 = weighted (ieee f) n root (row_product (ieee f) n starts1 cols1 vals1) in
      let L2 = weighted (ieee f) n root (row_product (ieee f) n starts2 cols2 vals2) in
      T (finite_vector n (L2 (L1 v))) → L2 (L1 v) ⊖ L1 (L2 v) ≡ zeros
  unfolding weighted
  weighted-samples-commutator root v t =
      commutator-plus-zero f n (weighted (ieee f) n root (row_product (ieee f) n starts1 cols1 vals1))
      (weighted (ieee f) n root (row_product (ieee f) n starts2 cols2 vals2))
      (λ x. rw (products-equal _)) v t
