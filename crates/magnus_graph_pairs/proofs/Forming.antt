-- The walk that forms Ωv of order 4, turn by turn: what has been written after some turns, and that one more turn writes the next place. Assumes
-- nothing.
use mathlib.Core.Path.{◌≡◌, sym, ◌∙◌}
use mathlib.Core.List.{List}
use Prim.Native.Nat.{ℕ, ◌+◌, ◌≤◌, ◌<◌}
use native.Mathlib.Omega.{arith}
use lib.ListN.{length, set}
use lib.Ieee.{Float, binary64, add, sub, mul}
use Rattle.arithmetic.specs.Arithmetic.{Arithmetic, ieee, at}
use Rattle.arithmetic.proofs.Product.{at-tabulate}
use Rattle.scratch.proofs.Writing.{Written, written_next}
use Rattle.graph_rows.specs.RowProduct.{row_sum64, row_product64}
use Rattle.magnus_graph_helpers.specs.Terms.{omega4_sum}
use Rattle.magnus_graph_helpers.proofs.Terms.{omega4_sum_at, omega4-sum-walk}
use Rattle.graph_pairs.specs.Pairs.{firsts, seconds}
use Rattle.graph_pairs.proofs.Pairs.{list-written, omega-place}

abbrev A : Arithmetic Float
A = ieee binary64

-- p are the pairs of b and a
module _ (n : ℕ) (row_starts cols : List ℕ) (vals1 vals2 p : List Float) (scale comm_scale : Float) (w₀ : List Float) where
  abbrev row : List Float → List Float → ℕ → Float
  row = row_sum64 row_starts cols

  abbrev c : List Float
  c = row_product64 n row_starts cols vals2 (seconds A n p)

  abbrev d : List Float
  d = row_product64 n row_starts cols vals1 (firsts A n p)

  -- after i turns the vector is w
  abbrev pub Forming : ℕ → List Float → Type 0
  Forming i w = Written 0 (omega4_sum_at A scale comm_scale (seconds A n p) (firsts A n p) c d) n w₀ i w

  module _ {i : ℕ} {w : List Float} (forming : Forming i w) where
    pub forming-next : i < n → {sum1 sum2 x y : Float}
        → sum1 ≡ row vals1 (firsts A n p) i
        → sum2 ≡ row vals2 (seconds A n p) i
        → x ≡ at A (firsts A n p) i
        → y ≡ at A (seconds A n p) i
        → Forming (i + 1) (set w i (add binary64 (mul binary64 scale (add binary64 y x)) (mul binary64 comm_scale (sub binary64 sum2 sum1))))
    forming-next turn sum1 sum2 x y =
        written_next forming turn _ _ (omega arith)
        (omega-place A scale comm_scale (seconds A n p) (firsts A n p) c d i y x
        (sum2 ∙ sym (at-tabulate A (row vals2 (seconds A n p)) n i turn))
        (sum1 ∙ sym (at-tabulate A (row vals1 (firsts A n p)) n i turn)))

    pub forming-all : length w₀ ≡ n → n ≤ i → w ≡ omega4_sum A n scale comm_scale (seconds A n p) (firsts A n p) c d
    forming-all size last = list-written size forming last (omega4-sum-walk A n scale comm_scale (seconds A n p) (firsts A n p) c d)
