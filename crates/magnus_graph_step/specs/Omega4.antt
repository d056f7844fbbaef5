-- The step of order 4 (01, part 6), as the contracts of its kernel cite it. Its formulas, over any arithmetic, stand in
-- the crate magnus (specs/Operators.antt). Assumes nothing.
use Rattle.std.specs.Prelude.{ℕ, Float}
use Rattle.std.specs.Float.{Format}
use Rattle.rounding.specs.StepLength.{minus_half}
use Rattle.arithmetic.specs.Arithmetic.{ieee}
use Rattle.magnus.specs.Operators.{Operator, omega4, taylor}
use Rattle.magnus.specs.Coefficients.{reciprocal_factorial}

-- the answer of a step of order 4 for the signal v: v + 1·Ωv + (1/2)·Ω²v + (1/6)·Ω³v + (1/24)·Ω⁴v, added in that order,
-- from the products P1 and P2 with the two samples. s is the literal for √3/12, sign is 1 forward and -1 adjoint.
abbrev pub exp_omega4 : (f : Format) (n : ℕ) → Float → Float → Float → (P1 P2 : Operator (ieee f) n) → Operator (ieee f) n
exp_omega4 f n s sign τ P1 P2 =
    taylor (ieee f) n (reciprocal_factorial f) 4 (omega4 (ieee f) n minus_half s sign τ P1 P2)
