-- The signal that the next weighted products of a step of law 2 take, scaled by the roots (01, part 5), and what the terms of the step's Taylor sum
-- do with it (part 7). Assumes nothing.
use Rattle.std.specs.Prelude.{◌≡◌, List, ℕ, ◌*◌, ◌≤◌, length, drop, Float}
use Rattle.std.specs.Float.{binary64}
use Rattle.arithmetic.specs.Arithmetic.{Arithmetic, ieee}
use Rattle.arithmetic.specs.Product.{plus_scaled}
use Rattle.scratch.specs.Parts.{part}
use Rattle.magnus.specs.Operators.{Operator, taylor}
use Rattle.varcoef_magnus_graph_pairs.specs.WeightedPairs.{scaled_pairs}

abbrev A : Arithmetic Float
A = ieee binary64

module _ (n : ℕ) where
  -- the pairs `scaled` are v, scaled by the roots r
  abbrev pub SignalScaled : List Float → List Float → List Float → Type 0
  SignalScaled r v scaled = scaled ≡ scaled_pairs n r v

  -- One term of a Taylor sum of W was added: where the scaled signal was v, it is its image under W, and to the sum the coefficient times that
  -- image was added.
  pub record ScaledTermAdded (r : List Float) (W : Operator A n) (coefficient : Float) (total scaled total' scaled' : List Float) : Type 0 where
    pub image : (v : List Float) → SignalScaled r v scaled → SignalScaled r (W v) scaled'
    pub sum : (v : List Float) → SignalScaled r v scaled → total' ≡ plus_scaled A n total coefficient (W v)

  -- The vector at 0 became its Taylor sum of degree d, with the coefficients c. From 8n on w is as it was.
  pub record SumFormed (c : ℕ → Float) (d : ℕ) (W : Operator A n) (w w' : List Float) : Type 0 where
    pub sum : part 0 n w' ≡ taylor A n c d W (part 0 n w)
    pub length-kept : length w' ≡ length w
    pub rest : (j : ℕ) → 8 * n ≤ j → drop j w' ≡ drop j w
