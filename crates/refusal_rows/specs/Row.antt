-- A row as the code holds it: its number and its values. Assumes nothing.
use Rattle.std.specs.Prelude.{List, [], ◌∷◌, ℕ}
use Rattle.error.specs.Refusals.{Carried, count, real}
use Rattle.refusal_rows.specs.declared.Row.{Row}
use Rattle.refusal_rows.specs.declared.Row.TheVariants.{Count, Real, Reals}

-- the number
abbrev pub row_number : Row → ℕ
row_number (Count number k) = number
row_number (Real number x) = number
row_number (Reals number x y) = number

-- the values, in the row's order
abbrev pub row_values : Row → List Carried
row_values (Count number k) = count k ∷ []
row_values (Real number x) = real x ∷ []
row_values (Reals number x y) = real x ∷ real y ∷ []
