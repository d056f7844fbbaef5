-- Ω of order 4 with the factors that the code forms. Assumes nothing.
use Rattle.std.specs.Prelude.{ℕ, Float}
use Rattle.std.specs.Float.{binary64}
use Rattle.std.specs.Float.Ieee.{mul}
use Rattle.rounding.specs.StepLength.{minus_half}
use Rattle.arithmetic.specs.Arithmetic.{ieee}
use Rattle.magnus.specs.Operators.{Operator, omega4}
use Rattle.magnus_graph_helpers.specs.declared.factors.Factors.{Factors}

-- Ω of order 4 on n nodes (01, part 6), of two operators
abbrev pub omega4_with : Factors → (n : ℕ) → Operator (ieee binary64) n → Operator (ieee binary64) n → Operator (ieee binary64) n
omega4_with f n = omega4 (ieee binary64) n minus_half f.s f.sign f.tau

-- the factor of the samples' sum, and that of the commutator
abbrev pub scale_of : Factors → Float
scale_of f = mul binary64 minus_half f.tau

abbrev pub comm_scale_of : Factors → Float
comm_scale_of f = mul binary64 (mul binary64 (mul binary64 f.sign f.s) f.tau) f.tau
