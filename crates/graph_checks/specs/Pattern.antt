-- What an accepted pattern and an accepted Laplacian have (01, part 2). proofs/Sound.antt shows that the checks accept
-- exactly these. Assumes nothing.
use Rattle.std.specs.Prelude.{◌≡◌, true, List, ℕ, ◌<◌, length, get_or, Float}
use Rattle.std.specs.Float.{nan}
use Rattle.std.specs.Float.Ieee.Scale.{finite}
-- the row starts, as the crates above name them
pub use Rattle.graph_shape.specs.Rows.{Rows}

-- a pattern, the row starts and columns of a Laplacian on n nodes: every column, in a row or not, is a node (row 4)
pub record Pattern (n : ℕ) (starts cols : List ℕ) : Type 0 where
  pub rows : Rows n starts (length cols)
  pub inside : (k : ℕ) → k < length cols → get_or cols k 0 < n

-- a pattern with a value for each entry (row 3), whatever the values are: what a product asks of a sample
pub record ValuedPattern (n : ℕ) (starts cols : List ℕ) (vals : List Float) : Type 0 where
  pub pattern : Pattern n starts cols
  pub count : length vals ≡ length cols

-- a Laplacian: a pattern with a value for each entry (row 3), every one finite (row 5)
pub record Laplacian (n : ℕ) (starts cols : List ℕ) (vals : List Float) : Type 0 where
  pub pattern : Pattern n starts cols
  pub count : length vals ≡ length cols
  pub finite-values : (k : ℕ) → k < length vals → finite (get_or vals k nan) ≡ true
