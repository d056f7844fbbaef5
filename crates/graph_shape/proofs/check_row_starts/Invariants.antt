-- `graph_shape::check_row_starts`: no start before row i exceeds the next.
use Rattle.graph_shape.specs.ShapeChecks.{falls_at}
use Rattle.graph_shape.proofs.First.{Passed}
use Rattle.graph_shape.proofs.check_row_starts.Given as goal

abbrev pub invariant-loop-i : goal.invariant-loop-i
invariant-loop-i l = Passed (falls_at l.row_ptr) l.n l.i
