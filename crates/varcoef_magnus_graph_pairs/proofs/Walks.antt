-- The walks of a term, turn by turn (01, parts 5 to 7): what has been written after some turns, and that one more turn writes the next pair or the
-- next place of each list. Assumes nothing.
use mathlib.Core.Path.{◌≡◌, sym, ap, ◌∙◌}
use mathlib.Core.List.{List}
use Prim.Native.Nat.{ℕ, ◌+◌, ◌*◌, ◌≤◌, ◌<◌}
use native.Mathlib.Omega.{arith}
use lib.ListN.{length, get_or, set}
use lib.Ieee.{Float, binary64, add, sub, mul, nan}
use Rattle.arithmetic.specs.Arithmetic.{Arithmetic, ieee, at}
use Rattle.arithmetic.specs.Product.{plus_scaled}
use Rattle.arithmetic.proofs.Product.{plus_scaled_at, plus-scaled-walk}
use Rattle.scratch.proofs.Writing.{Written, written_none, written_next, read-ahead}
use Rattle.graph_rows.specs.RowProduct.{row_sum64}
use Rattle.graph_pairs.specs.Pairs.{alternate, firsts, seconds}
use Rattle.graph_pairs.proofs.Pairs.{pair-written, first-of-pair, second-of-pair, list-written, pairs-written}
use Rattle.varcoef_magnus_graph_pairs.specs.WeightedPairs.{scaled_pairs, rooted_pairs, exchanged_pairs}
use Rattle.varcoef_magnus_graph_pairs.proofs.Formed.{formed, formed-place}

abbrev A : Arithmetic Float
A = ieee binary64

-- the first and the second root of each pair, times f
abbrev pub times_first : List Float → (ℕ → Float) → ℕ → Float
times_first r f i = mul binary64 (at A r (2 * i)) (f i)

abbrev pub times_second : List Float → (ℕ → Float) → ℕ → Float
times_second r f i = mul binary64 (at A r (2 * i + 1)) (f i)

-- the pairs of f and g, times the roots, of which i are written
abbrev pub Rooted : ℕ → List Float → (ℕ → Float) → (ℕ → Float) → List Float → ℕ → List Float → Type 0
Rooted n r f g w₀ i w = Written 0 (alternate (times_first r f) (times_second r g)) (2 * n) w₀ (2 * i) w

pub rooted_next : {n : ℕ} (r : List Float) (f g : ℕ → Float) {w₀ : List Float} {i : ℕ} {w : List Float}
    → Rooted n r f g w₀ i w
    → i < n
    → {r1 r2 x y : Float}
    → r1 ≡ at A r (2 * i)
    → r2 ≡ at A r (2 * i + 1)
    → x ≡ f i
    → y ≡ g i
    → Rooted n r f g w₀ (i + 1) (set (set w (2 * i) (mul binary64 r1 x)) (2 * i + 1) (mul binary64 r2 y))
rooted_next r f g rooted turn r1 r2 x y =
    pair-written (times_first r f) (times_second r g) rooted turn _ _ _ _ (omega arith) (omega arith) (λ k. mul binary64 (r1 k) (x k))
    (λ k. mul binary64 (r2 k) (y k))

module _ (n : ℕ) (row_starts cols : List ℕ) (x r : List Float) where
  -- the sums of a row
  abbrev row1 : List Float → ℕ → Float
  row1 s = row_sum64 row_starts cols (firsts A (length cols) x) (firsts A n s)

  abbrev row2 : List Float → ℕ → Float
  row2 s = row_sum64 row_starts cols (seconds A (length cols) x) (seconds A n s)

  -- ---- the first walk

  module _ (s : List Float) where
    abbrev products : List Float
    products = rooted_pairs n row_starts cols x r s

    -- after i turns
    pub record First (p₀ q₀ : List Float) (i : ℕ) (p q : List Float) : Type 0 where
      pub products-written : Rooted n r (row1 s) (row2 s) p₀ i p
      pub next-written : Rooted n r (λ j. at A products (2 * j + 1)) (λ j. at A products (2 * j)) q₀ i q

    pub first-none : (p₀ q₀ : List Float) → First p₀ q₀ 0 p₀ q₀
    first-none p₀ q₀ = record { products-written = written_none _ _ _ _; next-written = written_none _ _ _ _ }

    module _ {p₀ q₀ : List Float} {i : ℕ} {p q : List Float} (first : First p₀ q₀ i p q) where
      pub first_next : i < n → {m : ℕ} → m ≡ length cols → {r1 r2 sum1 sum2 : Float}
          → r1 ≡ at A r (2 * i)
          → r2 ≡ at A r (2 * i + 1)
          → sum1 ≡ row_sum64 row_starts cols (firsts A m x) (firsts A n s) i
          → sum2 ≡ row_sum64 row_starts cols (seconds A m x) (seconds A n s) i
          → First p₀ q₀ (i + 1)
          (set (set p (2 * i) (mul binary64 r1 sum1)) (2 * i + 1) (mul binary64 r2 sum2))
          (set (set q (2 * i) (mul binary64 r1 (mul binary64 r2 sum2))) (2 * i + 1) (mul binary64 r2 (mul binary64 r1 sum1)))
      first_next turn count r1 r2 sum1 sum2 =
          let product1 = sum1 ∙ ap (λ k. row_sum64 row_starts cols (firsts A k x) (firsts A n s) i) count in
          let product2 = sum2 ∙ ap (λ k. row_sum64 row_starts cols (seconds A k x) (seconds A n s) i) count in
          let a = (λ k. mul binary64 (r1 k) (product1 k)) ∙ sym (first-of-pair A n (times_first r (row1 s)) (times_second r (row2 s)) i turn) in
          let b = (λ k. mul binary64 (r2 k) (product2 k)) ∙ sym (second-of-pair A n (times_first r (row1 s)) (times_second r (row2 s)) i turn) in
          record {
            products-written = rooted_next r (row1 s) (row2 s) first.products-written turn r1 r2 product1 product2;
            next-written = rooted_next r (λ j. at A products (2 * j + 1)) (λ j. at A products (2 * j)) first.next-written turn r1 r2 b a;
          }

      pub first-products : length p₀ ≡ 2 * n → n ≤ i → p ≡ products
      first-products size last = pairs-written _ _ size first.products-written last

      pub first-exchanged : length p₀ ≡ 2 * n → length q₀ ≡ 2 * n → n ≤ i → q ≡ exchanged_pairs n r p
      first-exchanged size size' last =
          pairs-written _ _ size' first.next-written last ∙ ap (exchanged_pairs n r) (sym (first-products size last))

  -- ---- the second walk

  module _ (p s : List Float) (scale comm_scale coefficient : Float) where
    -- Ωv
    abbrev o : List Float
    o = formed n row_starts cols x r p s scale comm_scale

    -- after i turns
    pub record Second (t₀ q₀ : List Float) (i : ℕ) (t q : List Float) : Type 0 where
      pub sum : Written 0 (plus_scaled_at A t₀ coefficient o) n t₀ i t
      pub scaled : Rooted n r (at A o) (at A o) q₀ i q

    pub second-none : (t₀ q₀ : List Float) → Second t₀ q₀ 0 t₀ q₀
    second-none t₀ q₀ = record { sum = written_none _ _ _ _; scaled = written_none _ _ _ _ }

    module _ {t₀ q₀ : List Float} {i : ℕ} {t q : List Float} (second : Second t₀ q₀ i t q) where
      pub second_next : i < n → {m : ℕ} → m ≡ length cols → {r1 r2 sum1 sum2 a b : Float}
          → r1 ≡ at A r (2 * i)
          → r2 ≡ at A r (2 * i + 1)
          → sum1 ≡ row_sum64 row_starts cols (firsts A m x) (firsts A n s) i
          → sum2 ≡ row_sum64 row_starts cols (seconds A m x) (seconds A n s) i
          → a ≡ at A p (2 * i)
          → b ≡ at A p (2 * i + 1)
          → {y : Float}
          → y ≡ add binary64 (mul binary64 scale (add binary64 a b))
          (mul binary64 comm_scale (sub binary64 (mul binary64 r2 sum2) (mul binary64 r1 sum1)))
          → Second t₀ q₀ (i + 1) (set t i (add binary64 (get_or t i nan) (mul binary64 coefficient y)))
          (set (set q (2 * i) (mul binary64 r1 y)) (2 * i + 1) (mul binary64 r2 y))
      second_next turn count r1 r2 sum1 sum2 a b y =
          let product1 = sum1 ∙ ap (λ k. row_sum64 row_starts cols (firsts A k x) (firsts A n s) i) count in
          let product2 = sum2 ∙ ap (λ k. row_sum64 row_starts cols (seconds A k x) (seconds A n s) i) count in
          let place = y ∙ formed-place n row_starts cols x r p s scale comm_scale i turn r1 r2 product1 product2 a b in
          let own = read-ahead second.sum i (omega arith) nan in
          record {
            sum = written_next second.sum turn _ _ (omega arith) (λ k. add binary64 (own k) (mul binary64 coefficient (place k)));
            scaled = rooted_next r (at A o) (at A o) second.scaled turn r1 r2 place place;
          }

      pub second-sum : length t₀ ≡ n → n ≤ i → t ≡ plus_scaled A n t₀ coefficient o
      second-sum size last = list-written size second.sum last (plus-scaled-walk A n t₀ coefficient o)

      pub second-scaled : length q₀ ≡ 2 * n → n ≤ i → q ≡ scaled_pairs n r o
      second-scaled size last = pairs-written _ _ size second.scaled last
