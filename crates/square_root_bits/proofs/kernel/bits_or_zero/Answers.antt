-- `bits_or_zero` meets its contract: 0 is no NaN's pattern, and a value that is no NaN has the pattern that it is written in.
use mathlib.Core.Path.{sym, subst}
use mathlib.Core.Bool.{Bool, not}
use native.Mathlib.Omega.{arith}
use borrow.Author.Rules.{rules}
use lib.Dec.{T}
use lib.Ieee.{Float, binary64, to_bits, is_nan, fits}
use lib.Ieee.Bits.{of_bits-to_bits, nan_bits_is}
use Rattle.ieee_square_root.specs.Steps.{PatternOf}
use Rattle.ieee_square_root.proofs.FromBits.{no_nan}
use Rattle.square_root_bits.proofs.kernel.bits_or_zero.Goals as goal

no-pattern : (x : Float) → PatternOf x 0
no-pattern x = record { no_nan = no_nan binary64 0 (omega arith); value = λ h. absurd (omega (arith, h)) }

own-pattern : (x : Float) → T (fits binary64 x) → T (not (is_nan x)) → PatternOf x (to_bits binary64 x)
own-pattern x held number =
    let same = of_bits-to_bits binary64 x held in
    record {
      no_nan = subst (λ (t : Bool). T (not t)) (sym (nan_bits_is binary64 (to_bits binary64 x))) (subst (λ (v : Float). T (not (is_nan v))) (sym same) number);
      value = λ h. same;
    }

pub returns-then-is_nan : goal.returns-then-is_nan
returns-then-is_nan c = no-pattern c.args.x

pub returns-else-is_nan : goal.returns-else-is_nan
returns-else-is_nan c = own-pattern c.args.x (subst T (sym c.well_formed.0.1) tt) (search rules)
