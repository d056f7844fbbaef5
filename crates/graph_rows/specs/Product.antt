-- The row product with a sample, as the contracts cite it. Assumes nothing.
use Rattle.std.specs.Prelude.{List, ℕ, Float}
use Rattle.graph_rows.specs.RowProduct.{row_sum64, row_product64}
use Rattle.graph_rows.specs.declared.kernel.Sample.{Sample}

-- row i of the product of a sample with a signal
abbrev pub row_sum_of : Sample → List Float → ℕ → Float
row_sum_of s = row_sum64 s.pattern.row_ptr.now s.pattern.col_idx.now s.vals.now

-- the product of a sample with a signal
abbrev pub product_of : Sample → List Float → List Float
product_of s = row_product64 s.pattern.n s.pattern.row_ptr.now s.pattern.col_idx.now s.vals.now
