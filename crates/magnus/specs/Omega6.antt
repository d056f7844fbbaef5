-- The exponent Ω of order 6 (01, part 9), operation by operation as magnus6_graph_helpers.rs forms it. It is written in
-- operators, over any of them: over the operators on vectors (`on_vectors`) it is what the code computes at a vector, and
-- over those that tell of each number formed whether it is finite (the crate magnus_plain_sum) it is the premise of demand 3.
-- Published.antt has the published formula, which it is over exact numbers. Assumes nothing.
use Rattle.std.specs.Prelude.{Float}
use Rattle.std.specs.Float.{binary64}
use Rattle.std.specs.Float.Ieee.{of_bits}
use Rattle.magnus.specs.OperatorArithmetic.{OperatorArithmetic}

-- the constants: √15/3, 10/3, 1/12, 1/60, 1/240 and -20
pub record Constants6 (K : Type 0) : Type 0 where
  pub sqrt15_over3 : K
  pub ten_over3 : K
  pub one_over12 : K
  pub one_over60 : K
  pub one_over240 : K
  pub minus_twenty : K

-- Their binary64 values. The first is a literal of magnus6_graph.rs, 1.290_994_448_735_805_6; the next four are
-- quotients of whole numbers there, 10.0 / 3.0 to 1.0 / 240.0, each rounded once; -20 is a literal of
-- magnus6_graph_helpers.rs.
abbrev pub constants6 : Constants6 Float
constants6 = record {
  sqrt15_over3 = of_bits binary64 0x3FF4_A7E9_CB8A_3491;
  ten_over3 = of_bits binary64 0x400A_AAAA_AAAA_AAAB;
  one_over12 = of_bits binary64 0x3FB5_5555_5555_5555;
  one_over60 = of_bits binary64 0x3F91_1111_1111_1111;
  one_over240 = of_bits binary64 0x3F71_1111_1111_1111;
  minus_twenty = of_bits binary64 0xC034_0000_0000_0000;
}

-- P1, P2 and P3 are the products with the three samples, so that Ai = -Pi.
module _ {K O : Type 0} (S : OperatorArithmetic K O) (k : Constants6 K) (τ : K) (P1 P2 P3 : O) where
  open S.numbers use {◌+◌, ◌*◌, -◌}
  open S.operators use {◌+◌ as ◌⊕◌, ◌-◌ as ◌⊖◌, ◌*◌ as ◌∘◌, -◌ as ⊖◌}
  open k use {sqrt15_over3, ten_over3, one_over12, one_over60, one_over240, minus_twenty}

  infixl 60 ◌+◌ ◌⊕◌ ◌⊖◌
  infixr 65 ◌·◌
  infixl 70 ◌*◌
  infixr 75 ◌∘◌
  infix 80 -◌ ⊖◌
  abbrev ◌·◌ : K → O → O
  ◌·◌ = S.scale

  -- B1 = τ A2. The Rust has tau * (-s01[i]) for the signal and -tau * s09[i] later: the same number.
  unfoldable pub b1 : O
  b1 = (- τ) · P2

  -- B2 = (√15/3) τ (A3 - A1). The Rust has a3 - a1 for the signal and s01[i] - s02[i] later: the same number.
  unfoldable pub b2 : O
  b2 = (τ * sqrt15_over3) · (P1 ⊖ P3)

  -- A3 - 2 A2 + A1. The Rust has a3 - a2 - a2 + a1 for the signal and -s07[i] + s06[i] + s06[i] - s05[i] later: the same
  -- number.
  unfoldable pub second_difference : O
  second_difference = ⊖ P3 ⊕ P2 ⊕ P2 ⊖ P1

  -- B3 = (10/3) τ (A3 - 2 A2 + A1)
  unfoldable pub b3 : O
  b3 = (τ * ten_over3) · second_difference

  -- C1 = [B1, B2]
  unfoldable pub c1 : O
  c1 = b1 ∘ b2 ⊖ b2 ∘ b1

  -- 2 B3 + C1 (wv in the Rust)
  unfoldable pub two_b3_plus_c1 : O
  two_b3_plus_c1 = b3 ⊕ b3 ⊕ c1

  -- (2 B3 + C1) B1, which the Rust forms otherwise, as two_b3_b1v + c1_b1v: in two_b3_b1v the factor 2 is in τ + τ, and in
  -- c1_b1v the subtrahend B2 B1 B1 (b2_b1_b1v) has the factors of B2 and of the B1 beside it joined
  unfoldable pub two_b3_plus_c1_of_b1 : O
  two_b3_plus_c1_of_b1 =
      ((τ + τ) * ten_over3) · second_difference ∘ b1
      ⊕ (b1 ∘ b2 ∘ b1 ⊖ (τ * sqrt15_over3 * - τ) · (P1 ⊖ P3) ∘ P2 ∘ b1)

  -- C2 = -(1/60) [B1, 2 B3 + C1]
  unfoldable pub c2 : O
  c2 = (- one_over60) · (b1 ∘ two_b3_plus_c1 ⊖ two_b3_plus_c1_of_b1)

  -- -20 B1 - B3 + C1, the left operator of the last commutator
  unfoldable pub lop : O
  lop = minus_twenty · b1 ⊖ b3 ⊕ c1

  -- B2 + C2, the right one
  unfoldable pub rop : O
  rop = b2 ⊕ c2

  -- Ω = B1 + B3/12 + (1/240) [-20 B1 - B3 + C1, B2 + C2]
  unfoldable pub omega6 : O
  omega6 = b1 ⊕ one_over12 · b3 ⊕ one_over240 · (lop ∘ rop ⊖ rop ∘ lop)
