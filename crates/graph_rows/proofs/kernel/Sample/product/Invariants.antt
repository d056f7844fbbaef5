-- The invariant of `graph_rows::kernel::Sample::product`: the sums of the rows before row i are written.
use Rattle.std.proofs.Common.{◌-◌, length}
use Rattle.scratch.proofs.Writing.{Written}
use Rattle.graph_rows.specs.Product.{row_sum_of}
use Rattle.graph_rows.proofs.kernel.Sample.product.Given as goal

abbrev pub invariant-loop-i : goal.invariant-loop-i
invariant-loop-i l = Written 0 (row_sum_of l.self l.src) (length l.fn.out) l.fn.out l.i l.out

abbrev pub decreases-loop-i : goal.decreases-loop-i
decreases-loop-i l = l.n - l.i
