-- The checks of the counts: rows 6, 1 and 3 of document 01's table, each over all inputs. Assumes nothing.
use Rattle.std.specs.Prelude.{ℕ, ◌+◌, ltb}
use Rattle.error.specs.Checks.{refuse_if, refuse_unequal, next}
use Rattle.error.specs.declared.Refusal.TheVariants.{RowStartCount, EntryCount, Size}
use Rattle.error.specs.Answer.{Checked}

-- row 6: n > 4,096, else columns > 65,535
unfoldable pub size_fault : ℕ → ℕ → Checked
size_fault n columns = next (refuse_if (ltb 4096 n) (Size n)) (refuse_if (ltb 65535 columns) (Size columns))

-- row 1: the count of row starts is not n + 1
unfoldable pub row_start_count_fault : ℕ → ℕ → Checked
row_start_count_fault n count = refuse_unequal count (n + 1) (RowStartCount count)

-- row 3: the columns, or the values, are not as many as the last row start says
unfoldable pub entry_count_fault : ℕ → ℕ → Checked
entry_count_fault count last = refuse_unequal count last (EntryCount last)
