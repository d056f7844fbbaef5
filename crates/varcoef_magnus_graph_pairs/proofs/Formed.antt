-- Ωv of order 4 as the second walk of a term forms it, place by place. Assumes nothing.
use mathlib.Core.Path.{◌≡◌, sym, ap, ◌∙◌}
use mathlib.Core.List.{List}
use Prim.Native.Nat.{ℕ, ◌+◌, ◌*◌, ◌<◌}
use lib.ListN.{length}
use lib.Ieee.{Float, binary64, add, sub, mul}
use Rattle.arithmetic.specs.Arithmetic.{Arithmetic, ieee, at, multiplied}
use Rattle.arithmetic.proofs.Product.{at-tabulate}
use Rattle.graph_rows.specs.RowProduct.{row_sum64, row_product64}
use Rattle.graph_pairs.specs.Pairs.{firsts, seconds}
use Rattle.graph_pairs.proofs.Pairs.{at-firsts, at-seconds, omega-place}
use Rattle.magnus_graph_helpers.specs.Terms.{omega4_sum}
use Rattle.magnus_graph_helpers.proofs.Terms.{omega4_sum_at, omega4-sum-walk}

abbrev A : Arithmetic Float
A = ieee binary64

-- Ωv by its places
module _ {K : Type 0} (A : Arithmetic K) (n : ℕ) (scale comm_scale : K) (a b c d : List K) where
  omega-at : (i : ℕ) → i < n → at A (omega4_sum A n scale comm_scale a b c d) i ≡ omega4_sum_at A scale comm_scale a b c d i
  omega-at i h =
      ap (λ x. at A x i) (sym (omega4-sum-walk A n scale comm_scale a b c d))
      ∙ at-tabulate A (omega4_sum_at A scale comm_scale a b c d) n i h

-- x are the values, r the roots, p the pairs of a and b, and s those of r1 · b and r2 · a
module _ (n : ℕ) (row_starts cols : List ℕ) (x r p s : List Float) (scale comm_scale : Float) where
  abbrev row1 : ℕ → Float
  row1 = row_sum64 row_starts cols (firsts A (length cols) x) (firsts A n s)

  abbrev row2 : ℕ → Float
  row2 = row_sum64 row_starts cols (seconds A (length cols) x) (seconds A n s)

  abbrev d : List Float
  d = multiplied A n (firsts A n r) (row_product64 n row_starts cols (firsts A (length cols) x) (firsts A n s))

  abbrev c : List Float
  c = multiplied A n (seconds A n r) (row_product64 n row_starts cols (seconds A (length cols) x) (seconds A n s))

  abbrev pub formed : List Float
  formed = omega4_sum A n scale comm_scale (firsts A n p) (seconds A n p) c d

  -- its place i, from the roots, the sums of the row, and a and b there
  pub formed-place : (i : ℕ) → i < n → {r1 r2 sum1 sum2 xa xb : Float}
      → r1 ≡ at A r (2 * i)
      → r2 ≡ at A r (2 * i + 1)
      → sum1 ≡ row1 i
      → sum2 ≡ row2 i
      → xa ≡ at A p (2 * i)
      → xb ≡ at A p (2 * i + 1)
      → add binary64 (mul binary64 scale (add binary64 xa xb)) (mul binary64 comm_scale (sub binary64 (mul binary64 r2 sum2) (mul binary64 r1 sum1)))
      ≡ at A formed i
  formed-place i h r1 r2 sum1 sum2 xa xb =
      let first = r1 ∙ sym (at-firsts A n r i h) in
      let second = r2 ∙ sym (at-seconds A n r i h) in
      let product1 = sum1 ∙ sym (at-tabulate A row1 n i h) in
      let product2 = sum2 ∙ sym (at-tabulate A row2 n i h) in
      omega-place A scale comm_scale (firsts A n p) (seconds A n p) c d i (xa ∙ sym (at-firsts A n p i h)) (xb ∙ sym (at-seconds A n p i h))
      ((λ k. mul binary64 (second k) (product2 k)) ∙ sym (at-tabulate A _ n i h))
      ((λ k. mul binary64 (first k) (product1 k)) ∙ sym (at-tabulate A _ n i h))
      ∙ sym (omega-at A n scale comm_scale (firsts A n p) (seconds A n p) c d i h)
