-- Samples that agree have products that agree: lists that are numerically equal are equal up to the sign of a zero, and
-- the row product and the weighted product respect that. Assumes nothing.
use mathlib.Core.Path.{◌≡◌, ap, subst₂}
use mathlib.Core.List.{List, [], ◌∷◌}
use Prim.Native.Nat.{ℕ, zero, suc, ◌≤◌}
use native.Mathlib.Decide.{dec_lt}
use native.Mathlib.Omega.{arith}
use lib.Dec.{T}
use lib.ListN.{length, get_or, get_or-eq_default}
use lib.Ieee.{Float, nan, Format, fits, eq}
use lib.Ieee.Fits.{add-fits, mul-fits, nan-fits, and_l, and_r}
use Rattle.rounding.specs.SignOfZero.{Same}
use Rattle.rounding.proofs.Zeros.{zero-fits, eq-same}
use Rattle.arithmetic.specs.Vector.{tabulate}
use Rattle.arithmetic.specs.Arithmetic.{ieee, ieee-zero}
use Rattle.arithmetic.specs.Product.{sum_to, entries, row_sum, row_product}
use Rattle.arithmetic.specs.SameList.{SameList}
use Rattle.arithmetic.proofs.Tabulate.{length-tabulate, get_d_tabulate}
use Rattle.arithmetic.proofs.UpToZero.{same-list-refl, row-product-same-list, mul-same-list}
use Rattle.magnus.specs.Operators.{weighted}
use Rattle.magnus_plain_sum.specs.Agree.{agree, SamplesAgree, OfFormat, ProductsAgree}

-- ---- lists that agree

same-list-cons : {a b : Float} {x y : List Float} → Same a b → SameList x y → SameList (a ∷ x) (b ∷ y)
same-list-cons {a} {b} {x} {y} p r = record { lengths = ap suc r.lengths; places = places }
  where
    places : (i : ℕ) → Same (get_or (a ∷ x) i nan) (get_or (b ∷ y) i nan)
    places zero = p
    places (suc i) = r.places i

-- values of one format that are numerically equal are equal up to the sign of a zero
pub agree_same : (f : Format) (x y : List Float) → OfFormat f x → OfFormat f y → T (agree x y) → SameList x y
unfolding agree
agree_same f [] [] p q t = same-list-refl []
agree_same f [] (b ∷ y) p q t = absurd t
agree_same f (a ∷ x) [] p q t = absurd t
agree_same f (a ∷ x) (b ∷ y) p q t =
    same-list-cons (eq-same f a b (p 0) (q 0) (and_l (eq a b) (agree x y) t))
    (agree_same f x y (λ i. p (suc i)) (λ i. q (suc i)) (and_r (eq a b) (agree x y) t))

-- ---- values of the format

pub tabulate-of-format : (f : Format) (g : ℕ → Float) (n : ℕ) → ((i : ℕ) → T (fits f (g i))) → OfFormat f (tabulate g n)
tabulate-of-format f g n h i = elim (dec_lt i n) [
  | yes l ↦ rw (get_d_tabulate g n i nan l) (h i)
  | no l ↦
      let past : length (tabulate g n) ≤ i = rw (length-tabulate g n) (omega arith) in
      rw (get_or-eq_default (tabulate g n) nan past) (nan-fits f)
]

pub sum_fits : (f : Format) (g : ℕ → Float) (m : ℕ) → T (fits f (sum_to (ieee f) g m))
unfolding sum_to
sum_fits f g zero = rw (ieee-zero f) (zero-fits f)
sum_fits f g (suc m) = add-fits f (sum_to (ieee f) g m) (g m)

row-product-of-format : (f : Format) (n : ℕ) (starts cols : List ℕ) (vals x : List Float)
    → OfFormat f (row_product (ieee f) n starts cols vals x)
unfolding row_sum entries
row-product-of-format f n starts cols vals x =
    tabulate-of-format f (row_sum (ieee f) starts cols vals x) n (λ i. sum_fits f _ _)

-- ---- products that agree

-- the products with two samples that agree
row-products-agree : (f : Format) (n : ℕ) {starts1 cols1 starts2 cols2 : List ℕ} {vals1 vals2 : List Float}
    → starts1 ≡ starts2
    → cols1 ≡ cols2
    → SameList vals1 vals2
    → ProductsAgree f (row_product (ieee f) n starts1 cols1 vals1) (row_product (ieee f) n starts2 cols2 vals2)
row-products-agree f n {starts1} {cols1} {starts2} {cols2} {vals1} {vals2} p q r =
    let P1 = row_product (ieee f) n starts1 cols1 vals1 in
    subst₂ (λ (starts cols : List ℕ). ProductsAgree f P1 (row_product (ieee f) n starts cols vals2)) p q record {
      first = λ x. row-product-same-list f cols1 (same-list-refl vals1) x n starts1;
      both = λ x. row-product-same-list f cols1 r x n starts1;
      of_format = row-product-of-format f n starts1 cols1 vals1;
    }

pub samples-products-agree : (f : Format) (n : ℕ) {starts1 cols1 starts2 cols2 : List ℕ} {vals1 vals2 : List Float}
    → SamplesAgree starts1 cols1 vals1 starts2 cols2 vals2
    → OfFormat f vals1
    → OfFormat f vals2
    → ProductsAgree f (row_product (ieee f) n starts1 cols1 vals1) (row_product (ieee f) n starts2 cols2 vals2)
samples-products-agree f n {vals1 = vals1} {vals2 = vals2} agreed format1 format2 =
    row-products-agree f n agreed.starts agreed.cols
    (agree_same f vals1 vals2 format1 format2 agreed.vals)

-- the weighted products with roots that agree
pub weighted-products-agree : (f : Format) (n : ℕ) {root1 root2 : List Float} {P1 P2 : List Float → List Float}
    → SameList root1 root2
    → ProductsAgree f P1 P2
    → ProductsAgree f (weighted (ieee f) n root1 P1) (weighted (ieee f) n root2 P2)
unfolding weighted
weighted-products-agree f n {root1} r R = record {
  first = λ x. mul-same-list f n (same-list-refl root1) (R.first (mul-same-list f n (same-list-refl root1) x));
  both = λ x. mul-same-list f n r (R.both (mul-same-list f n r x));
  of_format = λ x. tabulate-of-format f _ n (λ i. mul-fits f _ _);
}
