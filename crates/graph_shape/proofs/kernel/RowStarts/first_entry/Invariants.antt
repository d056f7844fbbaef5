-- `graph_shape::kernel::RowStarts::first_entry`: neither loop has found an entry, and whatever test the closure makes holds at no entry passed. The
-- outer loop has passed the entries below the row start before, and the inner one those below k.
use Rattle.std.proofs.Common.{◌≡◌, ◌≤◌, ℕ, Bool, None}
use Rattle.graph_shape.specs.First.{Tests}
use Rattle.graph_shape.specs.RowStarts.{entry_count}
use Rattle.graph_shape.proofs.First.{Passed}
use Rattle.graph_shape.proofs.Walk.{start_before}
use Rattle.graph_shape.proofs.kernel.RowStarts.first_entry.Given as goal

abbrev pub invariant-loop-k : goal.invariant-loop-k
invariant-loop-k g l =
    let entries = entry_count l.self in
    (l.found ≡ None) × (l.k ≤ l.end) × ((p : ℕ → Bool) → Tests (goal.F-post g l.fails) p entries → Passed p entries l.k)

abbrev pub invariant-rows : goal.invariant-rows
invariant-rows g l =
    let entries = entry_count l.self in
    (l.found ≡ None)
    × (l.start ≡ start_before l.self.row_ptr.now l.end-index)
    × ((p : ℕ → Bool) → Tests (goal.F-post g l.fails) p entries → Passed p entries l.start)
