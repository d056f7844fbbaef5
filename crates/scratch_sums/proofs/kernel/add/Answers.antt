-- `scratch_sums::kernel::add` meets its contract: the closure adds.
use Rattle.std.proofs.Common.{rules}
use lib.Ieee.{binary64, add as plus}
use Rattle.scratch_sums.proofs.kernel.add.Goals as goal

pub returns : goal.returns
returns c = c.combine_within.ensures (plus binary64) (λ a b r called. search rules)
