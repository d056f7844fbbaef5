-- The checks of a pattern and of a Laplacian: rows 1 to 6 of document 01's table, each over all inputs, and
-- their order. What is read past a list's end is 0 or NaN; no check that comes after an accepted one reads there.
-- Assumes nothing.
use Rattle.std.specs.Prelude.{List, ℕ, length, get_or, Float}
use Rattle.error.specs.Checks.{next}
use Rattle.error.specs.Answer.{Checked}
-- the checks of the row starts, of the columns and of the values, as the crates above name them
unfoldable pub use Rattle.graph_shape.specs.ShapeChecks.{size_fault, row_start_count_fault, row_starts_fault, entry_count_fault, shape_fault}
pub use Rattle.graph_shape.specs.ShapeChecks.{falls_at}
unfoldable pub use Rattle.graph_columns.specs.ColumnChecks.{column_fault}
pub use Rattle.graph_columns.specs.ColumnChecks.{outside_at}
unfoldable pub use Rattle.graph_values.specs.ValueChecks.{value_fault}
pub use Rattle.graph_values.specs.ValueChecks.{not_finite_at}

-- a pattern: 6, 1, 2, 3, 4
unfoldable pub pattern_fault : ℕ → List ℕ → List ℕ → Checked
pattern_fault n starts cols = next (shape_fault n starts (length cols)) (column_fault n cols)

-- a Laplacian: 6, 1, 2, 3 for the columns and then for the values, 4, 5
unfoldable pub csr_fault : ℕ → List ℕ → List ℕ → List Float → Checked
csr_fault n starts cols vals =
    next (shape_fault n starts (length cols))
    (next (entry_count_fault (length vals) (get_or starts n 0))
    (next (column_fault n cols)
    (value_fault vals)))
