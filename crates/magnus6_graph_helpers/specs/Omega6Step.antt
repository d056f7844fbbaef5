-- The step of order 6 (01, part 9), as the contracts of its kernel cite it. Its formulas, over any arithmetic, stand in
-- the crate magnus (specs/Omega6.antt). Assumes nothing.
use Rattle.std.specs.Prelude.{ℕ, Float}
use Rattle.std.specs.Float.{Format}
use Rattle.arithmetic.specs.Arithmetic.{ieee}
use Rattle.magnus.specs.Operators.{Operator, taylor}
use Rattle.magnus.specs.OperatorArithmetic.{on_vectors}
use Rattle.magnus.specs.Omega6.{constants6, omega6}
use Rattle.magnus.specs.Coefficients.{reciprocal_factorial}

-- the answer of a step of order 6 for the signal v: v + 1·Ωv + (1/2)·Ω²v + .. + (1/720)·Ω⁶v, added in that order, from
-- the products P1, P2 and P3 with the three samples
abbrev pub exp_omega6 : (f : Format) (n : ℕ) → Float → (P1 P2 P3 : Operator (ieee f) n) → Operator (ieee f) n
exp_omega6 f n τ P1 P2 P3 =
    taylor (ieee f) n (reciprocal_factorial f) 6 (omega6 (on_vectors (ieee f) n) constants6 τ P1 P2 P3)
