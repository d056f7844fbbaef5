-- The weighted product (01, part 5) from the calls that form it in the work slice, and what it leaves there as it was. For any
-- arithmetic. Assumes nothing.
use mathlib.Core.Path.{◌≡◌, refl, sym, ◌∙◌}
use mathlib.Core.List.{List}
use Prim.Native.Nat.{ℕ, ◌≤◌, ◌+◌ as ◌+ℕ◌, ◌*◌ as ◌*ℕ◌}
use native.Mathlib.Omega.{arith}
use lib.ListN.{length}
use Rattle.arithmetic.specs.Vector.{tabulate}
use Rattle.arithmetic.specs.Arithmetic.{Arithmetic, at, multiplied}
use Rattle.arithmetic.proofs.Tabulate.{length-tabulate, tabulate-same}
use Rattle.arithmetic.proofs.Product.{at-tabulate}
use Rattle.scratch.specs.Parts.{part, put, Apart}
use Rattle.scratch.proofs.Parts.{wrote, length-put, put-of-put}
use Rattle.magnus.specs.Operators.{Operator, weighted}
use Rattle.magnus_graph_helpers.proofs.Terms.{ProductPlaced}
use Rattle.varcoef_magnus_graph_products.specs.WeightedProduct.{with_product}

module _ {K : Type 0} (A : Arithmetic K) where
  open A use {◌*◌}

  infixl 70 ◌*◌
  -- the root of place i times x i
  abbrev pub times_root : List K → (ℕ → K) → ℕ → K
  times_root root x i = at A root i * x i

module _ {K : Type 0} (A : Arithmetic K) (n : ℕ) where
  -- the walk over the rows that scales each row's sum by the root
  pub rooted-walk : (root : List K) (row : ℕ → K) → tabulate (times_root A root row) n ≡ multiplied A n root (tabulate row n)
  rooted-walk root row = tabulate-same _ _ n (λ i h. simp (at-tabulate A))

  -- a vector is written to the target, and then multiplied there by the roots, which lie apart from it
  pub rooted-written : (root target : ℕ) (x w w₁ w₂ : List K)
      → length x ≡ n
      → target +ℕ n ≤ length w
      → Apart n root target
      → w₁ ≡ put target x w
      → w₂ ≡ put target (multiplied A n (part root n w₁) (part target n w₁)) w₁
      → w₂ ≡ put target (multiplied A n (part root n w) x) w
  rooted-written root target x w w₁ w₂ size room far placed product =
      let written = wrote n target x w w₁ size room placed in
      product
      ∙ (λ j. put target (multiplied A n (written.apart root far j) (written.here j)) (placed j))
      ∙ put-of-put target x (multiplied A n (part root n w) x) w (size ∙ sym (length-tabulate _ n))

  -- the signal is scaled by the roots, and its product is scaled by them again
  pub weighted-written : (L : Operator A n) (r : List K) (source target : ℕ) (w w₁ w₂ : List K)
      → 6 *ℕ n ≤ length w
      → w₁ ≡ put (5 *ℕ n) (multiplied A n r (part source n w)) w
      → w₂ ≡ put target (multiplied A n r (L (part (5 *ℕ n) n w₁))) w₁
      → w₂ ≡ with_product A n L r source target w
  unfolding weighted
  weighted-written L r source target w w₁ w₂ room scaled product =
      let written = wrote n (5 *ℕ n) (multiplied A n r (part source n w)) w w₁ (length-tabulate _ n) (omega arith) scaled in
      product ∙ (λ j. put target (multiplied A n r (L (written.here j))) (scaled j))

  -- then it lies at the target
  pub weighted-placed : (L : Operator A n) (r : List K) (source target : ℕ) (w w' : List K)
      → 6 *ℕ n ≤ length w
      → source +ℕ n ≤ 5 *ℕ n
      → target +ℕ n ≤ 5 *ℕ n
      → w' ≡ with_product A n L r source target w
      → ProductPlaced A n (6 *ℕ n) source target (weighted A n r L) w w'
  unfolding weighted
  weighted-placed L r source target w w' room from to e =
      let v = part source n w in
      let x = multiplied A n r v in
      let w₁ = put (5 *ℕ n) x w in
      let kept = length-put (5 *ℕ n) x w in
      let scaled = wrote n (5 *ℕ n) x w w₁ (length-tabulate _ n) (omega arith) refl in
      let product = wrote n target (weighted A n r L v) w₁ w' (length-tabulate _ n) (omega arith) e in
      record {
        here = product.here;
        apart = λ a h far. product.apart a far ∙ scaled.apart a (omega arith);
        length-kept = product.length-kept ∙ scaled.length-kept;
        rest = λ k h. product.rest k (omega arith) ∙ scaled.rest k (omega arith);
      }
