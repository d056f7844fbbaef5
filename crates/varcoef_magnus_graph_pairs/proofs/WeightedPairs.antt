-- The vectors that the walks of a weighted step write as pairs: each is the formula's (01, part 5). Assumes nothing.
use mathlib.Core.Path.{◌≡◌, sym, ap, ◌∙◌}
use mathlib.Core.List.{List}
use Prim.Native.Nat.{ℕ, ◌+◌, ◌*◌}
use lib.ListN.{length}
use lib.Ieee.{Float, binary64, mul}
use Rattle.arithmetic.specs.Arithmetic.{Arithmetic, ieee, at, multiplied}
use Rattle.arithmetic.proofs.Tabulate.{tabulate-same}
use Rattle.arithmetic.proofs.Product.{at-tabulate}
use Rattle.graph_rows.specs.RowProduct.{row_sum64, row_product64}
use Rattle.graph_pairs.specs.Pairs.{firsts, seconds}
use Rattle.graph_pairs.proofs.Pairs.{at-firsts, at-seconds, firsts-of-pairs, seconds-of-pairs}
use Rattle.varcoef_magnus_graph_pairs.specs.WeightedPairs.{scaled_pairs, rooted_pairs, exchanged_pairs}

abbrev A : Arithmetic Float
A = ieee binary64

module _ (n : ℕ) where
  -- the scaled signals
  module _ (r v : List Float) where
    pub first-scaled : firsts A n (scaled_pairs n r v) ≡ multiplied A n (firsts A n r) v
    first-scaled =
        firsts-of-pairs A n (λ i. mul binary64 (at A r (2 * i)) (at A v i)) (λ i. mul binary64 (at A r (2 * i + 1)) (at A v i))
        ∙ tabulate-same _ _ n (λ i h. ap (λ x. mul binary64 x (at A v i)) (sym (at-firsts A n r i h)))

    pub second-scaled : seconds A n (scaled_pairs n r v) ≡ multiplied A n (seconds A n r) v
    second-scaled =
        seconds-of-pairs A n (λ i. mul binary64 (at A r (2 * i)) (at A v i)) (λ i. mul binary64 (at A r (2 * i + 1)) (at A v i))
        ∙ tabulate-same _ _ n (λ i h. ap (λ x. mul binary64 x (at A v i)) (sym (at-seconds A n r i h)))

    -- exchanged pairs v, scaled
    pub first-exchanged : firsts A n (exchanged_pairs n r v) ≡ multiplied A n (firsts A n r) (seconds A n v)
    first-exchanged =
        firsts-of-pairs A n (λ i. mul binary64 (at A r (2 * i)) (at A v (2 * i + 1))) (λ i. mul binary64 (at A r (2 * i + 1)) (at A v (2 * i)))
        ∙ tabulate-same _ _ n (λ i h. λ k. mul binary64 (sym (at-firsts A n r i h) k) (sym (at-seconds A n v i h) k))

    pub second-exchanged : seconds A n (exchanged_pairs n r v) ≡ multiplied A n (seconds A n r) (firsts A n v)
    second-exchanged =
        seconds-of-pairs A n (λ i. mul binary64 (at A r (2 * i)) (at A v (2 * i + 1))) (λ i. mul binary64 (at A r (2 * i + 1)) (at A v (2 * i)))
        ∙ tabulate-same _ _ n (λ i h. λ k. mul binary64 (sym (at-seconds A n r i h) k) (sym (at-firsts A n v i h) k))

  -- the products, scaled again
  module _ (row_starts cols : List ℕ) (x r s : List Float) where
    abbrev row : List Float → List Float → ℕ → Float
    row = row_sum64 row_starts cols

    abbrev x1 : List Float
    x1 = firsts A (length cols) x

    abbrev x2 : List Float
    x2 = seconds A (length cols) x

    abbrev a : ℕ → Float
    a i = mul binary64 (at A r (2 * i)) (row x1 (firsts A n s) i)

    abbrev b : ℕ → Float
    b i = mul binary64 (at A r (2 * i + 1)) (row x2 (seconds A n s) i)

    pub first-rooted : firsts A n (rooted_pairs n row_starts cols x r s)
        ≡ multiplied A n (firsts A n r) (row_product64 n row_starts cols x1 (firsts A n s))
    first-rooted =
        firsts-of-pairs A n a b
        ∙ tabulate-same _ _ n (λ i h.
        λ k. mul binary64 (sym (at-firsts A n r i h) k) (sym (at-tabulate A (row x1 (firsts A n s)) n i h) k))

    pub second-rooted : seconds A n (rooted_pairs n row_starts cols x r s)
        ≡ multiplied A n (seconds A n r) (row_product64 n row_starts cols x2 (seconds A n s))
    second-rooted =
        seconds-of-pairs A n a b
        ∙ tabulate-same _ _ n (λ i h.
        λ k. mul binary64 (sym (at-seconds A n r i h) k) (sym (at-tabulate A (row x2 (seconds A n s)) n i h) k))
