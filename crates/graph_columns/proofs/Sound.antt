-- What the check of the columns accepts. Assumes nothing.
use mathlib.Core.Path.{◌≡◌}
use mathlib.Core.Logic.{◌↔◌}
use mathlib.Core.List.{List}
use Prim.Native.Nat.{ℕ, ◌<◌}
use lib.ListN.{length, get_or}
use borrow.Author.Tests.{leb-false, lt-leb}
use Rattle.error.specs.Answer.{Accepted}
use Rattle.graph_shape.proofs.First.{refuse_first-accepted}
use Rattle.graph_columns.specs.ColumnChecks.{column_fault}

pub columns-accepted : (n : ℕ) (cols : List ℕ)
    → (column_fault n cols ≡ Accepted) ↔ ((k : ℕ) → k < length cols → get_or cols k 0 < n)
unfolding column_fault
columns-accepted n cols = (
  λ h k l. leb-false _ _ ((refuse_first-accepted _ _ _).0 h k l),
  λ h. (refuse_first-accepted _ _ _).1 (λ k l. lt-leb _ _ (h k l)),
)
