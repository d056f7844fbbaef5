-- The checks of the sizes and the row starts: rows 6, 1, 2 and 3 of document 01's table, each over all inputs, and their order. What is
-- read past a list's end is 0; no check that comes after an accepted one reads there. Assumes nothing.
use Rattle.std.specs.Prelude.{◌≡◌, ℕ, ◌+◌, ◌<◌, Bool, false, List, length, nat_lt, slice_index}
use Rattle.error.specs.Checks.{next}
use Rattle.error.specs.declared.Refusal.TheVariants.{RowStartFalls}
use Rattle.error.specs.Answer.{Checked}
use Rattle.graph_shape.specs.First.{refuse_first}
-- rows 6, 1 and 3
unfoldable pub use Rattle.graph_counts.specs.CountChecks.{size_fault, row_start_count_fault, entry_count_fault}

-- row i's start exceeds the next
abbrev pub falls_at : List ℕ → ℕ → Bool
falls_at starts i = nat_lt (slice_index starts (i + 1)) (slice_index starts i)

-- no row start of n rows exceeds the next
abbrev pub Rise : ℕ → List ℕ → Type 0
Rise n starts = (i : ℕ) → i < n → falls_at starts i ≡ false

-- row 2: the first i whose start exceeds the next
unfoldable pub row_starts_fault : ℕ → List ℕ → Checked
row_starts_fault n starts = refuse_first (falls_at starts) n RowStartFalls

-- 6, 1, 2, and 3 for the columns
unfoldable pub shape_fault : ℕ → List ℕ → ℕ → Checked
shape_fault n starts columns =
    next (size_fault n columns)
    (next (row_start_count_fault n (length starts))
    (next (row_starts_fault n starts)
    (entry_count_fault columns (slice_index starts n))))
