-- The terms of a weighted step with both samples as pairs (01, parts 7 and 10), from the walks that form them. Assumes nothing.
use mathlib.Core.Path.{◌≡◌, ap, ◌∙◌}
use mathlib.Core.List.{List}
use Prim.Native.Nat.{ℕ, ◌*◌}
use lib.ListN.{length}
use lib.Ieee.{Float, binary64}
use Rattle.rounding.specs.StepLength.{minus_half}
use Rattle.arithmetic.specs.Arithmetic.{Arithmetic, ieee, multiplied}
use Rattle.arithmetic.specs.Product.{plus_scaled}
use Rattle.scratch.specs.Parts.{part}
use Rattle.graph_rows.specs.RowProduct.{row_product64}
use Rattle.graph_pairs.specs.Pairs.{firsts, seconds}
use Rattle.magnus.specs.Operators.{Operator, weighted, omega4}
use Rattle.magnus_graph_helpers.specs.Terms.{omega4_sum, omega4-sum}
use Rattle.varcoef_magnus_graph_pairs.specs.WeightedPairs.{scaled_pairs, rooted_pairs, exchanged_pairs}
use Rattle.varcoef_magnus_graph_pairs.proofs.Formed.{formed}
use Rattle.varcoef_magnus_graph_pairs.proofs.WeightedPairs.{first-scaled, second-scaled, first-exchanged, second-exchanged}
use Rattle.varcoef_magnus_graph_pairs.proofs.WeightedPairs.{first-rooted, second-rooted}
use Rattle.varcoef_magnus_graph_traj_step.specs.SignalScaled.{SignalScaled, ScaledTermAdded}

abbrev A : Arithmetic Float
A = ieee binary64

-- r are the roots and x the values, as pairs
module _ (n : ℕ) (row_starts cols : List ℕ) where
  abbrev m : ℕ
  m = length cols

  -- the weighted products, and Ω with them
  abbrev first : List Float → List Float → Operator A n
  first r x = weighted A n (firsts A n r) (row_product64 n row_starts cols (firsts A m x))

  abbrev second : List Float → List Float → Operator A n
  second r x = weighted A n (seconds A n r) (row_product64 n row_starts cols (seconds A m x))

  abbrev pub omega_of : Float → Float → Float → List Float → List Float → Operator A n
  omega_of s sign τ r x = omega4 A n minus_half s sign τ (first r x) (second r x)

  -- with those that lie in the work slice
  abbrev pub sampled_omega : Float → Float → Float → List Float → Operator A n
  sampled_omega s sign τ w = omega_of s sign τ (part (8 * n) (2 * n) w) (part (11 * n) (2 * m) w)

  module _ (r x : List Float) (s sign τ coefficient : Float) where
    abbrev scale : Float
    scale = A.◌*◌ minus_half τ

    abbrev comm_scale : Float
    comm_scale = A.◌*◌ (A.◌*◌ (A.◌*◌ sign s) τ) τ

    -- the first walk forms a = P1 v and b = P2 v as pairs, and what the roots make of them, of the pairs q
    module _ (q products next : List Float) (walked : products ≡ rooted_pairs n row_starts cols x r q)
        (exchanged : next ≡ exchanged_pairs n r products) where
      abbrev image : List Float
      image = formed n row_starts cols x r products next scale comm_scale

      -- which are the signal v, scaled by the roots
      module _ (v : List Float) (signal : SignalScaled n r v q) where
        a : firsts A n products ≡ first r x v
        unfolding weighted
        a =
            ap (firsts A n) walked ∙ first-rooted n row_starts cols x r q
            ∙ ap (λ y. multiplied A n (firsts A n r) (row_product64 n row_starts cols (firsts A m x) y)) (ap (firsts A n) signal ∙ first-scaled n r v)

        b : seconds A n products ≡ second r x v
        unfolding weighted
        b =
            ap (seconds A n) walked ∙ second-rooted n row_starts cols x r q
            ∙ ap (λ y. multiplied A n (seconds A n r) (row_product64 n row_starts cols (seconds A m x) y))
            (ap (seconds A n) signal ∙ second-scaled n r v)

        scaled-b : firsts A n next ≡ multiplied A n (firsts A n r) (second r x v)
        scaled-b = ap (firsts A n) exchanged ∙ first-exchanged n r products ∙ ap (multiplied A n (firsts A n r)) b

        scaled-a : seconds A n next ≡ multiplied A n (seconds A n r) (first r x v)
        scaled-a = ap (seconds A n) exchanged ∙ second-exchanged n r products ∙ ap (multiplied A n (seconds A n r)) a

        formula : image ≡ omega_of s sign τ r x v
        unfolding weighted
        formula =
            (λ i.
            omega4_sum A n scale comm_scale (a i) (b i)
            (multiplied A n (seconds A n r) (row_product64 n row_starts cols (seconds A m x) (scaled-a i)))
            (multiplied A n (firsts A n r) (row_product64 n row_starts cols (firsts A m x) (scaled-b i))))
            ∙ omega4-sum A n minus_half s sign τ (first r x) (second r x) v

      -- the second walk adds a multiple of Ωv to the sum, and forms what the roots make of it
      pub sampled-term-added : {sum sum' q' : List Float}
          → (sum' ≡ plus_scaled A n sum coefficient image) × (q' ≡ scaled_pairs n r image)
          → ScaledTermAdded n r (omega_of s sign τ r x) coefficient sum q sum' q'
      sampled-term-added {sum} formed = record {
        image = λ v signal. formed.1 ∙ ap (scaled_pairs n r) (formula v signal);
        sum = λ v signal. formed.0 ∙ ap (plus_scaled A n sum coefficient) (formula v signal);
      }
