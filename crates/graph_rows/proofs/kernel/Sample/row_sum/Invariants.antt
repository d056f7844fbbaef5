-- The invariant of `graph_rows::kernel::Sample::row_sum`: acc is the sum of the row's entries before entry k.
use Rattle.std.specs.Prelude.{◌≡◌, ◌≤◌, slice_index_or}
use Rattle.std.specs.Float.{binary64}
use Rattle.arithmetic.specs.Arithmetic.{ieee}
use Rattle.arithmetic.specs.Product.{entries}
use Rattle.graph_rows.proofs.kernel.Sample.row_sum.Given as goal

abbrev pub invariant-loop-k : goal.invariant-loop-k
invariant-loop-k l =
    let s = l.self in
    let start = slice_index_or s.pattern.row_ptr.now l.i 0 in
    (l.k ≤ l.k-end) × (l.acc ≡ entries (ieee binary64) s.pattern.col_idx.now s.vals.now l.src start l.k)
