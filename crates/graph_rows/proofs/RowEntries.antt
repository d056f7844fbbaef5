-- Where the entries of a row are stored, from what is known of the row starts: what a walk over a row asks. Assumes
-- nothing.
use mathlib.Core.List.{List}
use Prim.Native.Nat.{ℕ, ◌+◌, ◌<◌}
use native.Mathlib.Omega.{arith}
use lib.ListN.{get_or}
use Rattle.graph_checks.specs.Pattern.{Rows, Pattern}

module _ {n m : ℕ} {starts : List ℕ} (rows : Rows n starts m) where
  -- an entry before the end of row i is stored
  pub entry-stored : (i k : ℕ) → i < n → k < get_or starts (i + 1) 0 → k < m
  entry-stored i k l h = omega (arith, rows.within (i + 1) (omega arith))

-- and its column is a node
pub entry-column : {n : ℕ} {starts cols : List ℕ} → Pattern n starts cols
    → (i k : ℕ) → i < n → k < get_or starts (i + 1) 0 → get_or cols k 0 < n
entry-column pattern i k l h = pattern.inside k (entry-stored pattern.rows i k l h)
