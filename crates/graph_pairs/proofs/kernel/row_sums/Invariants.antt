-- The invariant of `graph_pairs::kernel::row_sums`: the sums are those of the row's entries before entry k.
use Rattle.std.proofs.Common.{◌≡◌, ◌-◌, ◌≤◌, slice_index_or}
use Rattle.std.specs.Float.{binary64}
use Rattle.arithmetic.specs.Arithmetic.{ieee}
use Rattle.arithmetic.specs.Product.{entries}
use Rattle.graph_pairs.proofs.kernel.row_sums.Given as goal

abbrev pub invariant-loop-k : goal.invariant-loop-k
invariant-loop-k g l =
    let cols = l.pattern.col_idx.now in
    let start = slice_index_or l.pattern.row_ptr.now l.i 0 in
    (start ≤ l.k)
    × (l.k ≤ l.end)
    × (l.sums.first ≡ entries (ieee binary64) cols (g.V.Paired.firsts_of l.vals) (g.S.Paired.firsts_of l.src) start l.k)
    × (l.sums.second ≡ entries (ieee binary64) cols (g.V.Paired.seconds_of l.vals) (g.S.Paired.seconds_of l.src) start l.k)

abbrev pub decreases-loop-k : goal.decreases-loop-k
decreases-loop-k g l = l.end - l.k
