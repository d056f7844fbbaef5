-- What the checks of the counts accept: each row of the table exactly what it should. Assumes nothing.
use mathlib.Core.Path.{◌≡◌}
use mathlib.Core.Logic.{◌↔◌}
use Prim.Native.Nat.{ℕ, ◌+◌, ◌≤◌}
use borrow.Author.Tests.{ltb-false, le-ltb}
use Rattle.error.specs.Answer.{Accepted}
use Rattle.error.proofs.Checks.{refuse_if-accepted, refuse_unequal-accepted, next-accepted}
use Rattle.graph_counts.specs.CountChecks.{size_fault, row_start_count_fault, entry_count_fault}

pub size-accepted : (n columns : ℕ) → (size_fault n columns ≡ Accepted) ↔ ((n ≤ 4096) × (columns ≤ 65535))
unfolding size_fault
size-accepted n columns = (
  λ h.
      let g = (next-accepted _ _).0 h in
      (ltb-false _ _ ((refuse_if-accepted _ _).0 g.0), ltb-false _ _ ((refuse_if-accepted _ _).0 g.1)),
  λ h.
      (next-accepted _ _).1
      ((refuse_if-accepted _ _).1 (le-ltb _ _ h.0), (refuse_if-accepted _ _).1 (le-ltb _ _ h.1)),
)

pub row-start-count-accepted : (n count : ℕ) → (row_start_count_fault n count ≡ Accepted) ↔ (count ≡ n + 1)
unfolding row_start_count_fault
row-start-count-accepted n count = refuse_unequal-accepted count (n + 1) _

pub entry-count-accepted : (count last : ℕ) → (entry_count_fault count last ≡ Accepted) ↔ (count ≡ last)
unfolding entry_count_fault
entry-count-accepted count last = refuse_unequal-accepted count last _
