-- How a call's answer is laid out for programs in C and Rust: the struct `Answer` has its number, its whole count and its reals in places of
-- their own, so that no count turns real and no value stands in another's place. Assumes nothing.
use Rattle.std.specs.Prelude.{◌≡◌, List, [], ◌∷◌, ℕ, length, get_or, Float}
use Rattle.std.specs.Float.{binary64}
use Rattle.std.specs.Float.Ieee.{of_bits}
use Rattle.error.specs.declared.Refusal.{Refusal}
use Rattle.error.specs.Answer.{Checked}
use Rattle.error.specs.Answer.{Accepted, Refused}
use Rattle.error.specs.Refusals.{Carried, count, real, number_of, values_of}
use Rattle.refusal_rows.specs.declared.Row.{Row}
use Rattle.refusal_rows.specs.Row.{row_number, row_values}
use Rattle.answer.specs.declared.Answer.{Answer}

-- the whole counts among the values, in their order
abbrev pub counts_in : List Carried → List ℕ
counts_in [] = []
counts_in (count k ∷ values) = k ∷ counts_in values
counts_in (real x ∷ values) = counts_in values

-- the reals among the values, in their order
abbrev pub reals_in : List Carried → List Float
reals_in [] = []
reals_in (count k ∷ values) = reals_in values
reals_in (real x ∷ values) = x ∷ reals_in values

-- what stands in the place of a real that is not there: +0
abbrev pub no_real : Float
no_real = of_bits binary64 0

-- a number and values in the struct: how many counts there are and the first of them, how many reals and the first two
abbrev pub laid_out : ℕ → List Carried → Answer
laid_out number values = record {
  number = number;
  counts = length (counts_in values);
  count = get_or (counts_in values) 0 0;
  reals = length (reals_in values);
  first = get_or (reals_in values) 0 no_real;
  second = get_or (reals_in values) 1 no_real;
}

-- the struct of a row
abbrev pub told : Row → Answer
told row = laid_out (row_number row) (row_values row)

-- the struct of a refusal: its number and values in 01's table
abbrev pub refusal_struct : Refusal → Answer
refusal_struct r = laid_out (number_of r) (values_of r)

-- the struct of an answer: the refusal's, or 0 and what the call gives where it is accepted
abbrev pub struct_of : Checked → List Carried → Answer
struct_of Accepted given = laid_out 0 given
struct_of (Refused r) given = refusal_struct r

-- What a function for C promises of the struct that it returns: the call that it makes gave an answer, with all that the call promises of it,
-- and the struct is that answer's.
pub record Tells (returned : Answer) (Promised : Checked → Type 0) : Type 0 where
  pub answer : Checked
  pub promised : Promised answer
  pub struct : returned ≡ struct_of answer []
