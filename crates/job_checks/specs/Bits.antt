-- The bits of a job's map (01, "The job program"). Assumes nothing.
use Rattle.std.specs.Prelude.{ℕ}
use Rattle.job_checks.specs.declared.Field.{Field}
use Rattle.job_checks.specs.declared.Field.TheVariants.{Pattern, Values1, Values2, Values3, Tau, Bound, Weights, Signal, Adjoint}

-- the bit of a field
abbrev pub bit_of : Field → ℕ
bit_of Pattern = 0
bit_of Values1 = 1
bit_of Values2 = 2
bit_of Values3 = 3
bit_of Tau = 4
bit_of Bound = 5
bit_of Weights = 6
bit_of Signal = 7
bit_of Adjoint = 8
