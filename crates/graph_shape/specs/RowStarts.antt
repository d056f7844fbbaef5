-- Accepted row starts, as the contracts cite them. Assumes nothing.
use Rattle.std.specs.Prelude.{ℕ, slice_index}
use Rattle.graph_shape.specs.declared.kernel.RowStarts.{RowStarts}

-- how many entries there are: what the last row start says
abbrev pub entry_count : RowStarts → ℕ
entry_count s = slice_index s.row_ptr.now s.n
