-- The row product (01, part 1) at binary64, as the contracts cite it. Its formulas, over any arithmetic, stand in the
-- crate arithmetic (specs/Product.antt). Assumes nothing.
use Rattle.std.specs.Prelude.{List, ℕ, Float}
use Rattle.std.specs.Float.{binary64}
use Rattle.arithmetic.specs.Arithmetic.{ieee}
use Rattle.arithmetic.specs.Product.{row_sum, row_product}

-- row i of the product with a signal, from the row starts, the columns, the values and the signal
abbrev pub row_sum64 : List ℕ → List ℕ → List Float → List Float → ℕ → Float
row_sum64 = row_sum (ieee binary64)

-- the product of a matrix of n rows with a signal, from the same lists
abbrev pub row_product64 : ℕ → List ℕ → List ℕ → List Float → List Float → List Float
row_product64 = row_product (ieee binary64)
