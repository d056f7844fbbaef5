-- The check of the columns: row 4 of document 01's table, over all inputs. Assumes nothing.
use Rattle.std.specs.Prelude.{Bool, List, ℕ, leb, length, get_or}
use Rattle.error.specs.declared.Refusal.TheVariants.{Column}
use Rattle.error.specs.Answer.{Checked}
use Rattle.graph_shape.specs.First.{refuse_first}

-- entry k's column is n or more
abbrev pub outside_at : ℕ → List ℕ → ℕ → Bool
outside_at n cols k = leb n (get_or cols k 0)

-- row 4: the first column that is n or more
unfoldable pub column_fault : ℕ → List ℕ → Checked
column_fault n cols = refuse_first (outside_at n cols) (length cols) (λ k. Column (get_or cols k 0))
