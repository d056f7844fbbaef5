-- Over exact numbers the row product and the weighted product are linear, so what Sign.antt shows of linear products
-- holds of those that the code computes: its formulas of order 4, unweighted and weighted, and of order 6 are the
-- published ones.
-- Assumes nothing.
use mathlib.Core.Path.{◌≡◌, sym, ap, ◌∙◌}
use mathlib.Core.List.{List}
use Prim.Native.Nat.{ℕ, ◌<◌, ◌+◌ as ◌+ℕ◌, ◌-◌ as ◌-ℕ◌}
use native.Mathlib.Decide.{dec_le}
use native.Mathlib.Omega.{arith}
use lib.ListN.{length, get_or, get_or-eq_default}
use Rattle.arithmetic.specs.Vector.{tabulate}
use Rattle.arithmetic.specs.Arithmetic.{Arithmetic, at, vectors, scaled}
use Rattle.arithmetic.specs.Product.{entries, row_sum, row_product}
use Rattle.arithmetic.proofs.Tabulate.{tabulate-same}
use Rattle.arithmetic.proofs.Product.{at-tabulate}
use Rattle.magnus.specs.Operators.{Operator, weighted}
use Rattle.magnus.specs.Omega6.{Constants6}
use Rattle.magnus.specs.Ring.{Ring, Linear}
use Rattle.magnus.specs.Published.{AsPublished, AsPublished6}
use Rattle.magnus.proofs.Vectors.{mul_left_comm, sum_same, sum-add, sum-mul}
use Rattle.magnus.proofs.Sign.{omega4-as-published}
use Rattle.magnus.proofs.Sign6.{omega6-as-published}

-- every listed column is one of the n nodes (01, row 4)
abbrev pub ColumnsInside : ℕ → List ℕ → Type 0
ColumnsInside n cols = (k : ℕ) → k < length cols → get_or cols k 0 < n

module _ {K : Type 0} {A : Arithmetic K} (R : Ring A) (n : ℕ) where
  open A use {◌+◌, ◌*◌}
  open vectors A n use {◌+◌ as ◌⊕◌, ◌*◌ as ◌⊙◌}
  open R use {mul-add}

  infixl 60 ◌+◌ ◌⊕◌
  infixr 65 ◌·◌
  infixl 70 ◌*◌ ◌⊙◌
  abbrev ◌·◌ : K → List K → List K
  ◌·◌ = scaled A n

  -- ---- the row product
  module _ (starts cols : List ℕ) (vals : List K) (inside : ColumnsInside n cols) where
    -- every column that is read is a node, where there is one (past the list's end column 0 is read)
    column-inside : (i : ℕ) → i < n → (k : ℕ) → get_or cols k 0 < n
    column-inside i h k =
        elim (dec_le (length cols) k)
        [ yes l ↦ rw (get_or-eq_default cols 0 l) (omega arith) | no l ↦ inside k (omega arith) ]

    -- so an entry reads a vector within its n places
    read-tabulate : (i : ℕ) → i < n → (g : ℕ → K) (k : ℕ) → at A (tabulate g n) (get_or cols k 0) ≡ g (get_or cols k 0)
    read-tabulate i h g k = at-tabulate A g n (get_or cols k 0) (column-inside i h k)

    module _ (i : ℕ) (h : i < n) where
      row-of-sum : (x y : List K)
          → row_sum A starts cols vals (x ⊕ y) i ≡ row_sum A starts cols vals x i + row_sum A starts cols vals y i
      unfolding row_sum entries
      row-of-sum x y =
          let lo = get_or starts i 0 in
          let hi = get_or starts (i +ℕ 1) 0 in
          sum_same R _ _ (hi -ℕ lo)
          (λ j l. ap (at A vals (lo +ℕ j) *◌) (read-tabulate i h _ (lo +ℕ j)) ∙ mul-add _ _ _)
          ∙ sum-add R _ _ (hi -ℕ lo)

      row-of-multiple : (s : K) (x : List K)
          → row_sum A starts cols vals (s · x) i ≡ s * row_sum A starts cols vals x i
      unfolding row_sum entries
      row-of-multiple s x =
          let lo = get_or starts i 0 in
          let hi = get_or starts (i +ℕ 1) 0 in
          sum_same R _ _ (hi -ℕ lo)
          (λ j l. ap (at A vals (lo +ℕ j) *◌) (read-tabulate i h _ (lo +ℕ j)) ∙ mul_left_comm R _ _ _)
          ∙ sum-mul R s _ (hi -ℕ lo)

    pub row-product-linear : Linear A n (row_product A n starts cols vals)
    row-product-linear = record {
      of-sum = λ x y. tabulate-same _ _ n (λ i h. rw (row-of-sum i h x y) (sym (simp (at-tabulate A))));
      of-multiple = λ s x. tabulate-same _ _ n (λ i h. rw (row-of-multiple i h s x) (sym (simp (at-tabulate A))));
    }

  -- ---- the weighted product
  module _ (root : List K) where
    weights-of-sum : (x y : List K) → root ⊙ (x ⊕ y) ≡ root ⊙ x ⊕ root ⊙ y
    weights-of-sum x y = tabulate-same _ _ n (λ i h. simp (at-tabulate A, mul-add))

    weights-of-multiple : (s : K) (x : List K) → root ⊙ (s · x) ≡ s · (root ⊙ x)
    weights-of-multiple s x = tabulate-same _ _ n (λ i h. simp (at-tabulate A, mul_left_comm R))

    pub weighted-linear : (P : Operator A n) → Linear A n P → Linear A n (weighted A n root P)
    unfolding weighted
    weighted-linear P linear = record {
      of-sum = λ x y.
          rw (weights-of-sum x y, linear.of-sum (root ⊙ x) (root ⊙ y))
          (weights-of-sum (P (root ⊙ x)) (P (root ⊙ y)));
      of-multiple = λ s x.
          rw (weights-of-multiple s x, linear.of-multiple s (root ⊙ x)) (weights-of-multiple s (P (root ⊙ x)));
    }

  -- ---- the products that the code computes, with the samples (starts1, cols1, vals1) and (starts2, cols2, vals2)
  module _ (half c τ : K) (starts1 cols1 : List ℕ) (vals1 : List K) (starts2 cols2 : List ℕ) (vals2 : List K)
      (inside1 : ColumnsInside n cols1) (inside2 : ColumnsInside n cols2) where
    -- 01, part 6
    pub row-products-as-published :
        AsPublished A n half c τ (row_product A n starts1 cols1 vals1) (row_product A n starts2 cols2 vals2)
    row-products-as-published =
        omega4-as-published R n half c τ _ _
        (row-product-linear starts1 cols1 vals1 inside1) (row-product-linear starts2 cols2 vals2 inside2)

    -- 01, part 7: root1 and root2 are the roots of the two samples' weights
    pub weighted-products-as-published : (root1 root2 : List K)
        → AsPublished A n half c τ (weighted A n root1 (row_product A n starts1 cols1 vals1))
        (weighted A n root2 (row_product A n starts2 cols2 vals2))
    weighted-products-as-published root1 root2 =
        omega4-as-published R n half c τ _ _
        (weighted-linear root1 _ (row-product-linear starts1 cols1 vals1 inside1))
        (weighted-linear root2 _ (row-product-linear starts2 cols2 vals2 inside2))

  -- 01, part 9: a third sample
  pub row-products-as-published6 : (k : Constants6 K) (τ : K)
      (starts1 cols1 : List ℕ) (vals1 : List K) (starts2 cols2 : List ℕ) (vals2 : List K)
      (starts3 cols3 : List ℕ) (vals3 : List K)
      → ColumnsInside n cols1
      → ColumnsInside n cols3
      → AsPublished6 A n k τ (row_product A n starts1 cols1 vals1) (row_product A n starts2 cols2 vals2)
      (row_product A n starts3 cols3 vals3)
  row-products-as-published6 k τ starts1 cols1 vals1 starts2 cols2 vals2 starts3 cols3 vals3 inside1 inside3 =
      omega6-as-published R n k τ _ _ _
      (row-product-linear starts1 cols1 vals1 inside1) (row-product-linear starts3 cols3 vals3 inside3)
