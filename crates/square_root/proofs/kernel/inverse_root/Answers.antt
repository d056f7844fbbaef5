-- `inverse_root` promises nothing; it is safe: the seed's pattern lies below the infinity's.
use native.Mathlib.Omega.{arith}
use lib.Ieee.{binary64}
use Rattle.ieee_square_root.proofs.FromBits.{no_nan}
use Rattle.square_root.proofs.kernel.inverse_root.Goals as goal

pub float_from_bits-seed : goal.float_from_bits-seed
float_from_bits-seed c = no_nan binary64 _ (omega arith)
