-- `graph_bound::kernel::gershgorin`: max_sum is the largest of +0 and the sums of the rows before row i.
use Rattle.std.proofs.Common.{◌≡◌}
use lib.Ieee.{binary64}
use Rattle.graph_bound.specs.Gershgorin.{row_absolute_sum, largest_to}
use Rattle.graph_bound.proofs.kernel.gershgorin.Given as goal

abbrev pub invariant-loop-i : goal.invariant-loop-i
invariant-loop-i l = l.max_sum ≡ largest_to binary64 (row_absolute_sum binary64 l.vals.row_starts.row_ptr.now l.vals.list.now) l.i
