-- `graph_shape::row_starts_rise`: where the word joined is below 2^63, no start before row i exceeds the next.
use Rattle.graph_shape.proofs.RowStarts.{Joined}
use Rattle.graph_shape.proofs.row_starts_rise.Given as goal

abbrev pub invariant-loop-i : goal.invariant-loop-i
invariant-loop-i l = Joined l.row_ptr l.i l.joined
