-- The walk that forms the products of two samples of one pattern, turn by turn: what has been written after some turns, and that one more turn
-- writes the next place of both vectors, since what it reads is as it was. Assumes nothing.
use mathlib.Core.Path.{◌≡◌, refl, ap, ◌∙◌}
use mathlib.Core.Logic.{inl}
use mathlib.Core.List.{List}
use Prim.Native.Nat.{ℕ, ◌+◌, ◌-◌, ◌≤◌, ◌<◌}
use native.Mathlib.Omega.{arith}
use lib.ListN.{length, set}
use lib.Ieee.{Float}
use Rattle.scratch.specs.Parts.{part, put, Apart}
use Rattle.scratch.proofs.Parts.{part-of-put-apart}
use Rattle.scratch.proofs.Writing.{Written, written_none, written_next, written_all, part-kept}
use Rattle.scratch.proofs.Writing.{WrittenOver, over_none, over-next, over-outside}
use Rattle.graph_rows.specs.RowProduct.{row_sum64, row_product64}
use Rattle.graph_scratch.proofs.WorkSlice.{lent-part}

module _ (n : ℕ) (starts cols : List ℕ) (vals1 vals2 : List Float) (source first second : ℕ) (w₀ : List Float) where
  abbrev row : List Float → ℕ → Float
  row vals = row_sum64 starts cols vals (part source n w₀)

  -- after i turns the work slice is w
  pub record TwoProducts (i : ℕ) (w : List Float) : Type 0 where
    pub written : WrittenOver second (row vals2) n (Written first (row vals1) n w₀ i) i w

  pub products-none : TwoProducts 0 w₀
  products-none = record { written = over_none second (row vals2) n w₀ (written_none first (row vals1) n w₀) }

  pub products-next : {i : ℕ} {w : List Float} → TwoProducts i w
      → first + n ≤ second
      → Apart n source first
      → Apart n source second
      → i < n
      → {x y : Float}
      → x ≡ row_sum64 starts cols vals1 (part source (source + n - source) w) i
      → y ≡ row_sum64 starts cols vals2 (part source (source + n - source) w) i
      → TwoProducts (i + 1) (set (set w (first + i) x) (second + i) y)
  products-next {i} {w} so order apart1 apart2 left {x} {y} e1 e2 =
      let over = so.written in
      let kept : part source (source + n - source) w ≡ part source n w₀ =
      lent-part source n w ∙ part-kept over.here source apart2 ∙ part-kept over.rest source apart1 in
      let one : WrittenOver second (row vals2) n (Written first (row vals1) n w₀ (i + 1)) i (set w (first + i) x) = over-outside over (first + i) x (inl (omega arith))
      (λ u told. written_next told left (first + i) x refl (e1 ∙ ap (λ (v : List Float). row_sum64 starts cols vals1 v i) kept)) in
      record { written = over-next one left (second + i) y refl (e2 ∙ ap (λ (v : List Float). row_sum64 starts cols vals2 v i) kept) }

  pub products-all : {i : ℕ} {w : List Float} → TwoProducts i w
      → n ≤ i
      → w ≡ put second (row_product64 n starts cols vals2 (part source n w₀)) (put first (row_product64 n starts cols vals1 (part source n w₀)) w₀)
  products-all {i} {w} so last =
      let over = so.written in
      written_all over.here last refl
      ∙ ap (put second (row_product64 n starts cols vals2 (part source n w₀))) (written_all over.rest last refl)

-- ---- samples with patterns of their own

-- the second sample's product, by the first one's pattern where that is its own
pub by-its-own-pattern : {n m : ℕ} (second : ℕ) {starts1 cols1 starts2 cols2 : List ℕ} (vals2 v w₁ : List Float) {w : List Float}
    → n ≡ m
    → (starts1 ≡ starts2) × (cols1 ≡ cols2)
    → w ≡ put second (row_product64 n starts1 cols1 vals2 v) w₁
    → w ≡ put second (row_product64 m starts2 cols2 vals2 v) w₁
by-its-own-pattern second vals2 v w₁ nodes same e =
    e ∙ (λ k. put second (row_product64 (nodes k) (same.0 k) (same.1 k) vals2 v) w₁)

-- one product after the other: the first one is written apart from the source
pub one-after-the-other : (n source first second : ℕ) (P2 : List Float → List Float) (x w : List Float) {w₁ w₂ : List Float}
    → length x ≡ n
    → Apart n source first
    → w₁ ≡ put first x w
    → w₂ ≡ put second (P2 (part source n w₁)) w₁
    → w₂ ≡ put second (P2 (part source n w)) (put first x w)
one-after-the-other n source first second P2 x w size apart e₁ e₂ =
    let kept : part source n (put first x w) ≡ part source n w = part-of-put-apart n source first x w (omega arith) apart in
    rw (e₁, kept) at e₂
