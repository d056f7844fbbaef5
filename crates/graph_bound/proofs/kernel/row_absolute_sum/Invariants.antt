-- `graph_bound::kernel::row_absolute_sum`: row_sum is the sum of the absolute values of the entries passed.
use Rattle.std.proofs.Common.{◌≡◌, ◌+◌}
use lib.ListN.{get_or}
use lib.Ieee.{binary64}
use Rattle.graph_bound.specs.Gershgorin.{absolute_sum}
use Rattle.graph_bound.proofs.kernel.row_absolute_sum.Given as goal

abbrev pub invariant-loop-v : goal.invariant-loop-v
invariant-loop-v l =
    let lo = get_or l.vals.row_starts.row_ptr.now l.i 0 in
    l.row_sum ≡ absolute_sum binary64 l.vals.list.now lo (lo + l.v-index)
