-- `is_nan_pattern` meets its contract: the patterns above the infinity's, the sign cleared, are the NaN's. Assumes nothing.
use Rattle.std.proofs.Common.{sym}
use Rattle.std.specs.Float.{binary64}
use lib.Ieee.Bits.{nan_bits_above}
use Rattle.float_bits.proofs.is_nan_pattern.Goals as goal

pub returns : goal.returns
returns c = sym (nan_bits_above binary64 c.args.bits)
