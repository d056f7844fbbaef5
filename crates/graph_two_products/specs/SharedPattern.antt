-- What a caller says of the patterns of two samples. Assumes nothing.
use Rattle.std.specs.Prelude.{◌≡◌, Bool, true, List, ℕ}

-- `shared` is true only where the row starts of the two patterns are the same, and their columns are
pub record SharedPattern (shared : Bool) (starts1 cols1 starts2 cols2 : List ℕ) : Type 0 where
  pub same : shared ≡ true → (starts1 ≡ starts2) × (cols1 ≡ cols2)
