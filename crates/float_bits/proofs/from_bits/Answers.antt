-- `from_bits` meets its contract: a NaN's pattern stands for the one NaN, and so does 0.0 / 0.0. Assumes nothing.
use Rattle.std.proofs.Common.{◌≡◌, refl, sym, ◌∙◌}
use Rattle.std.specs.Float.{nan, binary64}
use Rattle.std.specs.Float.Ieee.{of_bits, div}
use Rattle.rounding.proofs.Nan.{nan_pattern}
use Rattle.float_bits.proofs.from_bits.Goals as goal

zero-quotient : div binary64 (of_bits binary64 0) (of_bits binary64 0) ≡ nan
unfolding div of_bits
zero-quotient = refl

pub returns-then-is_nan_pattern : goal.returns-then-is_nan_pattern
returns-then-is_nan_pattern c =
    zero-quotient ∙ sym (nan_pattern binary64 _ (sym c.is_nan_pattern.ensures ∙ c.if-is_nan_pattern.true))
