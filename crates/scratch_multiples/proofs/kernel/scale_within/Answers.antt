-- `scratch_multiples::kernel::scale_within` meets its contract: the closure forms a multiple of the first of its elements, which are the same.
use Rattle.std.proofs.Common.{rules}
use lib.Ieee.{binary64, mul}
use Rattle.scratch_multiples.proofs.kernel.scale_within.Goals as goal

pub returns : goal.returns
returns c = c.combine_within.ensures (λ x y. mul binary64 c.args.scale x) (λ x y r called. search rules)
