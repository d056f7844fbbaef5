-- Operators that give zeros, wherever every number that they form is finite: sums, differences and multiples of such
-- operators do, and so do compositions. Differences of products that agree do. A row product takes zeros to zeros.
-- Assumes nothing.
use mathlib.Core.Path.{sym, ◌∙◌}
use mathlib.Core.List.{List}
use Prim.Native.Nat.{ℕ, zero, suc, ◌<◌, ◌≤◌}
use native.Mathlib.Decide.{dec_lt}
use native.Mathlib.Omega.{arith}
use lib.Dec.{T}
use lib.ListN.{length, get_or, get_or-eq_default}
use lib.Ieee.{Float, nan, Format, fits, neg, add, sub}
use lib.Ieee.Scale.{finite}
use Rattle.rounding.specs.SignOfZero.{+0, Same}
use Rattle.rounding.proofs.Same.{same_refl, same-sym, same-trans, same-equal, add_same, sub_same, neg_same}
use Rattle.rounding.proofs.Finite.{finite-of-sub, finite-of-mul, same-finite}
use Rattle.rounding.proofs.Zeros.{sub-same-zero, mul-zero-right, add-zero-right, add-zeros, sub-zeros, second-difference}
use Rattle.arithmetic.specs.Vector.{tabulate}
use Rattle.arithmetic.specs.Arithmetic.{ieee, ieee-zero, at, vectors}
use Rattle.arithmetic.specs.Product.{sum_to, entries, row_sum}
use Rattle.arithmetic.specs.SameList.{SameList}
use Rattle.arithmetic.proofs.Tabulate.{length-tabulate, get_d_tabulate}
use Rattle.arithmetic.proofs.Product.{at-tabulate}
use Rattle.arithmetic.proofs.UpToZero.{same-list-refl, tabulate-same-list}
use Rattle.magnus_plain_sum.specs.Agree.{ProductsAgree}
use Rattle.magnus_plain_sum.specs.Formed.{FormedOperator, formed_operators, formed_sum, formed_row, formed_product}
use Rattle.magnus_plain_sum.proofs.Formed.{and_is, every-place-is, finite-tabulate}

module _ (f : Format) (n : ℕ) where
  open vectors (ieee f) n use {zero as zeros, ◌+◌ as ◌⊞◌}
  open (formed_operators f n).operators use {◌+◌, ◌-◌, ◌*◌ as ◌∘◌, -◌}

  infixl 60 ◌+◌ ◌-◌ ◌⊞◌
  infixr 65 ◌·◌
  infixr 75 ◌∘◌
  infix 80 -◌
  abbrev ◌·◌ : Float → FormedOperator → FormedOperator
  ◌·◌ = (formed_operators f n).scale

  -- ---- vectors of zeros

  zero-at : {x : List Float} → SameList x zeros → (i : ℕ) → i < n → Same (get_or x i nan) +0
  zero-at h i l =
      same-trans (h.places i) (same-equal (at-tabulate (ieee f) _ n i l ∙ ieee-zero f))

  -- wherever such a vector is finite: past its end it is nan
  zero-if-finite : {x : List Float} → SameList x zeros → (i : ℕ) → T (finite (get_or x i nan)) → Same (get_or x i nan) +0
  zero-if-finite h i t = elim (dec_lt i n) [
    | yes l ↦ zero-at h i l
    | no l ↦
        let past : length zeros ≤ i = rw (length-tabulate {A = Float} _ n) (omega arith) in
        absurd (rw (get_or-eq_default zeros nan past) at (same-finite (h.places i) t))
  ]

  all-zero : (g : ℕ → Float) → ((i : ℕ) → i < n → Same (g i) +0) → SameList (tabulate g n) zeros
  all-zero g h = tabulate-same-list _ _ n (λ i l. same-trans (h i l) (same-equal (sym (ieee-zero f))))

  -- added to a vector of the format they change at most the sign of a zero
  pub add-zero-vector : (g : ℕ → Float) → ((i : ℕ) → T (fits f (g i))) → {z : List Float}
      → SameList z zeros
      → SameList (tabulate g n ⊞ z) (tabulate g n)
  add-zero-vector g h p =
      tabulate-same-list _ _ n (λ i l. rw (get_d_tabulate g n i nan l) (add-zero-right f (h i) (zero-at p i l)))

  -- ---- operators

  -- a sum forms what its terms form
  pub formed-terms : (X Y : FormedOperator) (v : List Float)
      → T ((X + Y).formed v)
      → T (X.formed v) × T (Y.formed v)
  formed-terms X Y v t = (simp and_is at t).0

  -- X gives zeros for each vector of which C holds, wherever every number that it forms is finite
  pub record ZeroWhere (C : List Float → Type 0) (X : FormedOperator) : Type 0 where
    pub gives : {v : List Float} → C v → T (X.formed v) → SameList (X.apply v) zeros

  -- for every vector
  abbrev pub Vanishes : FormedOperator → Type 0
  Vanishes = ZeroWhere (λ v. Unit {0})

  -- for zeros
  abbrev pub KeepsZeros : FormedOperator → Type 0
  KeepsZeros = ZeroWhere (λ v. SameList v zeros)

  module _ {C : List Float → Type 0} where
    pub sum-zero : {X Y : FormedOperator} → ZeroWhere C X → ZeroWhere C Y → ZeroWhere C (X + Y)
    sum-zero p q = record {
      gives = λ c t. let parts = (simp and_is at t) in
          all-zero _ (λ i l. add-zeros f (zero-at (p.gives c parts.0.0) i l) (zero-at (q.gives c parts.0.1) i l));
    }

    pub difference-zero : {X Y : FormedOperator} → ZeroWhere C X → ZeroWhere C Y → ZeroWhere C (X - Y)
    difference-zero p q = record {
      gives = λ c t. let parts = (simp and_is at t) in
          all-zero _ (λ i l. sub-zeros f (zero-at (p.gives c parts.0.0) i l) (zero-at (q.gives c parts.0.1) i l));
    }

    pub multiple-zero : (s : Float) {X : FormedOperator} → ZeroWhere C X → ZeroWhere C (s · X)
    multiple-zero s {X} p = record {
      gives = λ {v} c t. let parts = (simp and_is at t) in
          all-zero _ (λ i l.
          mul-zero-right f s (finite-of-mul f s (get_or (X.apply v) i nan) (finite-tabulate n _ parts.1 i l)).0
          (zero-at (p.gives c parts.0) i l));
    }

    -- X after Y, where Y gives zeros and X keeps them
    pub after-zero : {X Y : FormedOperator} → KeepsZeros X → ZeroWhere C Y → ZeroWhere C (X ∘ Y)
    after-zero p q = record {
      gives = λ c t. let parts = (simp and_is at t) in p.gives (q.gives c parts.0) parts.1;
    }

    -- an operator that vanishes
    pub vanishing-zero : {X : FormedOperator} → Vanishes X → ZeroWhere C X
    vanishing-zero p = record { gives = λ c t. p.gives tt t }

  -- X after any Y, where X vanishes
  pub vanishing-after : {X : FormedOperator} (Y : FormedOperator) → Vanishes X → Vanishes (X ∘ Y)
  vanishing-after Y p = record { gives = λ c t. p.gives tt (simp and_is at t).1 }

  -- ---- products

  -- the difference of products that agree
  pub products-difference : (P1 P3 : FormedOperator) → ProductsAgree f P1.apply P3.apply → Vanishes (P1 - P3)
  products-difference P1 P3 agreed = record {
    gives = λ {v} c t. let parts = (simp and_is at t) in
        all-zero _ (λ i l.
        sub-same-zero f (finite-of-sub f _ _ (finite-tabulate n _ parts.1 i l)).0
        ((agreed.both (same-list-refl v)).places i));
  }

  -- the second difference of three products that agree
  pub products-second-difference : (P1 P2 P3 : FormedOperator)
      → ProductsAgree f P1.apply P2.apply
      → ProductsAgree f P1.apply P3.apply
      → Vanishes (- P3 + P2 + P2 - P1)
  products-second-difference P1 P2 P3 agreed2 agreed3 = record {
    gives = λ {v} c t.
        let finite-at = finite-tabulate n _ (simp and_is at t).1 in
        let second = agreed2.both (same-list-refl v) in
        let third = agreed3.both (same-list-refl v) in
        all-zero _ (λ i l. simp at-tabulate
        (of-the-same (agreed2.of_format v i) (finite-of-sub f _ _ (finite-at i l)).1 (second.places i) (third.places i)));
  }
    where
      of-the-same : {x1 x2 x3 : Float} → T (fits f x1) → T (finite x1) → Same x1 x2 → Same x1 x3
          → Same (sub f (add f (add f (neg x3) x2) x2) x1) +0
      of-the-same {x1} q t p r =
          same-trans
          (sub_same f (add_same f (add_same f (neg_same (same-sym r)) (same-sym p)) (same-sym p)) (same_refl x1))
          (same-equal (second-difference f x1 q t))

-- a sum of products with zeros
sum-of-zeros : (f : Format) (g : ℕ → Float) (m : ℕ)
    → ((j : ℕ) → T (finite (g j)) → Same (g j) +0)
    → T (formed_sum f g m)
    → Same (sum_to (ieee f) g m) +0
unfolding formed_sum sum_to
sum-of-zeros f g zero h t = same-equal (ieee-zero f)
sum-of-zeros f g (suc m) h t =
    let parts = (simp and_is at t) in
    add-zeros f (sum-of-zeros f g m h parts.0.0) (h m parts.0.1)

-- the row product
pub product-keeps-zeros : (f : Format) (n : ℕ) (starts cols : List ℕ) (vals : List Float)
    → KeepsZeros f n (formed_product f n starts cols vals)
unfolding formed_row row_sum entries
product-keeps-zeros f n starts cols vals = record {
  gives = λ z t. all-zero f n _ (λ i l.
      sum-of-zeros f _ _ (λ j u.
      let factors = finite-of-mul f _ _ u in
      mul-zero-right f _ factors.0 (zero-if-finite f n z _ factors.1))
      ((every-place-is _ n).0 t i l));
}
