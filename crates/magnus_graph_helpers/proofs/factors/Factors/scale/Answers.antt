-- `Factors::scale` meets its contract: the code's -0.5 is minus_half. Assumes nothing.
use Rattle.std.proofs.Common.{refl}
use lib.Ieee.{of_bits, neg}
use Rattle.magnus_graph_helpers.proofs.factors.Factors.scale.Goals as goal

pub returns : goal.returns
unfolding of_bits neg
returns c = refl
