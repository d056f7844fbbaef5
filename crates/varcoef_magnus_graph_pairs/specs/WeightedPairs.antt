-- What the walks of a weighted step write where its two samples lie as pairs (01, parts 5 and 7). Assumes nothing.
use Rattle.std.specs.Prelude.{List, ℕ, ◌+◌, ◌*◌, length, Float}
use Rattle.std.specs.Float.{binary64}
use Rattle.std.specs.Float.Ieee.{mul}
use Rattle.arithmetic.specs.Arithmetic.{ieee, at}
use Rattle.graph_rows.specs.RowProduct.{row_sum64}
use Rattle.graph_pairs.specs.Pairs.{pairs, firsts, seconds}

module _ (n : ℕ) where
  -- a signal v, scaled by the first and by the second of the roots r
  abbrev pub scaled_pairs : List Float → List Float → List Float
  scaled_pairs r v =
      let A = ieee binary64 in
      pairs n (λ i. mul binary64 (at A r (2 * i)) (at A v i)) (λ i. mul binary64 (at A r (2 * i + 1)) (at A v i))

  -- the products of the first and of the second sample, with values x, with the scaled signals s, scaled again
  abbrev pub rooted_pairs : List ℕ → List ℕ → List Float → List Float → List Float → List Float
  rooted_pairs row_starts cols x r s =
      let A = ieee binary64 in
      let m = length cols in
      pairs n (λ i. mul binary64 (at A r (2 * i)) (row_sum64 row_starts cols (firsts A m x) (firsts A n s) i))
      (λ i. mul binary64 (at A r (2 * i + 1)) (row_sum64 row_starts cols (seconds A m x) (seconds A n s) i))

  -- the pairs p of two signals, exchanged, and scaled by the roots r: each signal goes to the other sample
  abbrev pub exchanged_pairs : List Float → List Float → List Float
  exchanged_pairs r p =
      let A = ieee binary64 in
      pairs n (λ i. mul binary64 (at A r (2 * i)) (at A p (2 * i + 1))) (λ i. mul binary64 (at A r (2 * i + 1)) (at A p (2 * i)))
