-- What accepted row starts have (01, part 2). proofs/Sound.antt shows that the checks accept exactly these. Assumes nothing.
use Rattle.std.specs.Prelude.{◌≡◌, ℕ, ◌+◌, ◌<◌, ◌≤◌, List, length, slice_index, slice_index_or}

-- the row starts of n rows over the given number of entries. The first need not be 0; entries before it belong to no row.
pub record Rows (n : ℕ) (starts : List ℕ) (entries : ℕ) : Type 0 where
  -- at most 4,096 rows and 65,535 entries (row 6)
  pub few-rows : n ≤ 4096
  pub few-entries : entries ≤ 65535
  -- n + 1 row starts, since row i goes from start i up to start i + 1 (row 1)
  pub count : length starts ≡ n + 1
  -- which never fall (row 2)
  pub rising : (i : ℕ) → i < n → slice_index starts i ≤ slice_index starts (i + 1)
  -- and of which the last is the number of entries (row 3), so that every row ends within them
  pub last : slice_index_or starts n 0 ≡ entries
  pub within : (i : ℕ) → i ≤ n → slice_index starts i ≤ entries
