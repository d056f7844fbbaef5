-- The step lengths for which the factor -0.5 * τ of order 4 (01, part 6) is exact, so that demand 3 holds for them: a
-- zero, or at least 2 ^ (prec - low). proofs/Halving.antt shows that it is exact, and proofs/Sharp.antt that no smaller
-- bound would do. Assumes nothing.
use Rattle.std.specs.Prelude.{refl, Bool, true, false, ◌||◌, ℕ, ◌*◌, ◌^◌, negsuc, Float}
use Rattle.std.proofs.Common.{ap, ◌∙◌, one-mul}
use Rattle.std.specs.Float.{fin, Format}
use Rattle.std.specs.Float.Ieee.{prec, low, down, minus, eq, le}
use Rattle.std.specs.Float.Ieee.Digits.{minus_val}
use Rattle.std.specs.Float.Ieee.Exact.{HasValue}
use Rattle.rounding.specs.SignOfZero.{+0}

-- 2 ^ (prec - low): 2 ^ -1021 for binary64, 2 ^ -125 for binary32
abbrev pub least_step : Format → Float
least_step f = fin false 1 (minus (prec f) (low f))

-- as a fraction: 2 ^ prec times the format's smallest value, 1 / 2 ^ low
pub least_step-value : (f : Format) → HasValue (least_step f) false (2 ^ prec f) (2 ^ low f)
least_step-value f =
    let e = minus (prec f) (low f) in
    (refl, minus_val 1 (prec f) (low f) ∙ ap (λ (x : ℕ). x * down e) (one-mul (2 ^ prec f)))

-- τ is a zero or at least `least_step`
unfoldable pub step_length : Format → Float → Bool
unfolding eq le
step_length f τ = eq τ +0 || le (least_step f) τ

-- the literal -0.5 (01, part 6)
abbrev pub minus_half : Float
minus_half = fin true 1 (negsuc 0)
