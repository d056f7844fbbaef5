-- Equality up to the sign of a zero, of vectors: it is an equivalence, and the vector operations, sums, the row product
-- and the signal sum respect it, at any values and in any format. Assumes nothing.
use mathlib.Core.Path.{◌≡◌, refl, sym, ◌∙◌, subst}
use mathlib.Core.List.{List}
use Prim.Native.Nat.{ℕ, zero, suc, ◌+◌, ◌-◌, ◌<◌}
use native.Mathlib.Decide.{dec_lt}
use native.Mathlib.Omega.{arith}
use lib.ListN.{length, get_or, get_or-eq_default}
use lib.Ieee.{Float, Format, nan}
use Rattle.rounding.specs.SignOfZero.{Same}
use Rattle.rounding.proofs.Same.{same_refl, same-sym, same-trans, same-equal, neg_same, add_same, sub_same, mul-same}
use Rattle.arithmetic.specs.Vector.{tabulate}
use Rattle.arithmetic.specs.Arithmetic.{ieee, vectors, scaled}
use Rattle.arithmetic.specs.Product.{sum_to, entries, row_sum, row_product, plus_scaled}
use Rattle.arithmetic.specs.SameList.{SameList}
use Rattle.arithmetic.proofs.Tabulate.{length-tabulate, get_d_tabulate}

-- ---- an equivalence

pub same-list-equal : {x y : List Float} → x ≡ y → SameList x y
same-list-equal {x} p = subst (λ (y : List Float). SameList x y) p record {
  lengths = refl;
  places = λ i. same_refl (get_or x i nan);
}

pub same-list-refl : (x : List Float) → SameList x x
same-list-refl x = same-list-equal refl

pub same-list-sym : {x y : List Float} → SameList x y → SameList y x
same-list-sym p = record { lengths = sym p.lengths; places = λ i. same-sym (p.places i) }

pub same-list-trans : {x y z : List Float} → SameList x y → SameList y z → SameList x z
same-list-trans p q = record {
  lengths = p.lengths ∙ q.lengths;
  places = λ i. same-trans (p.places i) (q.places i);
}

-- lists of one length need to be compared within it only
pub same-list : {x y : List Float}
    → length x ≡ length y
    → ((i : ℕ) → i < length x → Same (get_or x i nan) (get_or y i nan))
    → SameList x y
same-list {x} {y} e h = record {
  lengths = e;
  places = λ i. elim (dec_lt i (length x)) [
    | yes l ↦ h i l
    | no l ↦ same-equal (get_or-eq_default x nan (omega arith) ∙ sym (get_or-eq_default y nan (omega arith)))
  ];
}

pub tabulate-same-list : (f g : ℕ → Float) (n : ℕ)
    → ((i : ℕ) → i < n → Same (f i) (g i))
    → SameList (tabulate f n) (tabulate g n)
tabulate-same-list f g n h =
    same-list (length-tabulate f n ∙ sym (length-tabulate g n))
    (λ i l. let k : i < n = (rw (length-tabulate f n) at l) in
    rw (get_d_tabulate f n i nan k, get_d_tabulate g n i nan k) (h i k))

-- ---- the vector operations

module _ (f : Format) (n : ℕ) where
  open vectors (ieee f) n use {◌+◌ as ◌⊕◌, ◌-◌ as ◌⊖◌, ◌*◌ as ◌⊙◌, -◌ as ⊖◌}

  infixl 60 ◌⊕◌ ◌⊖◌
  infixl 70 ◌⊙◌
  infix 80 ⊖◌
  module _ {x x' y y' : List Float} (p : SameList x x') (q : SameList y y') where
    pub add-same-list : SameList (x ⊕ y) (x' ⊕ y')
    add-same-list = tabulate-same-list _ _ n (λ i l. add_same f (p.places i) (q.places i))

    pub sub-same-list : SameList (x ⊖ y) (x' ⊖ y')
    sub-same-list = tabulate-same-list _ _ n (λ i l. sub_same f (p.places i) (q.places i))

    pub mul-same-list : SameList (x ⊙ y) (x' ⊙ y')
    mul-same-list = tabulate-same-list _ _ n (λ i l. mul-same f (p.places i) (q.places i))

  pub neg-same-list : {x x' : List Float} → SameList x x' → SameList (⊖ x) (⊖ x')
  neg-same-list p = tabulate-same-list _ _ n (λ i l. neg_same (p.places i))

  pub scaled-same-list : {s s' : Float} {x x' : List Float}
      → Same s s'
      → SameList x x'
      → SameList (scaled (ieee f) n s x) (scaled (ieee f) n s' x')
  scaled-same-list r p = tabulate-same-list _ _ n (λ i l. mul-same f r (p.places i))

  -- the signal sum
  pub plus-scaled-same-list : {s s' : List Float} {alpha alpha' : Float} {v v' : List Float}
      → SameList s s'
      → Same alpha alpha'
      → SameList v v'
      → SameList (plus_scaled (ieee f) n s alpha v) (plus_scaled (ieee f) n s' alpha' v')
  unfolding plus_scaled
  plus-scaled-same-list p r q = add-same-list p (scaled-same-list r q)

-- ---- sums and the row product

module _ (f : Format) where
  pub sum_same : (g h : ℕ → Float) (m : ℕ)
      → ((j : ℕ) → j < m → Same (g j) (h j))
      → Same (sum_to (ieee f) g m) (sum_to (ieee f) h m)
  unfolding sum_to
  sum_same g h zero r = same_refl _
  sum_same g h (suc m) r = add_same f (sum_same g h m (λ j l. r j (omega arith))) (r m (omega arith))

  module _ (cols : List ℕ) {vals vals' x x' : List Float} (p : SameList vals vals') (q : SameList x x') where
    pub entries-same : (lo hi : ℕ) → Same (entries (ieee f) cols vals x lo hi) (entries (ieee f) cols vals' x' lo hi)
    unfolding entries
    entries-same lo hi =
        sum_same _ _ (hi - lo) (λ j l. mul-same f (p.places (lo + j)) (q.places (get_or cols (lo + j) 0)))

    pub row-sum-same : (starts : List ℕ) (i : ℕ)
        → Same (row_sum (ieee f) starts cols vals x i) (row_sum (ieee f) starts cols vals' x' i)
    unfolding row_sum
    row-sum-same starts i = entries-same (get_or starts i 0) (get_or starts (i + 1) 0)

    pub row-product-same-list : (n : ℕ) (starts : List ℕ)
        → SameList (row_product (ieee f) n starts cols vals x) (row_product (ieee f) n starts cols vals' x')
    row-product-same-list n starts = tabulate-same-list _ _ n (λ i l. row-sum-same starts i)
