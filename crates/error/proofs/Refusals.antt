-- An answer's number and values determine it: a promise about a case of the enum is a promise about what document 01 has
-- in its place. The proof reads an answer back from its number and values, by a list of the rows in 01's order.
-- Assumes nothing.
use mathlib.Core.Path.{◌≡◌, refl, sym, ap, ◌∙◌}
use mathlib.Core.List.{List, [], ◌∷◌}
use Prim.Native.Nat.{ℕ, ◌-◌}
use lib.ListN.{get_or}
use lib.Ieee.{Float, nan}
use Rattle.error.specs.Refusals.{Carried, count, real, answer_of}
use Rattle.error.specs.declared.Refusal.{Refusal}
use Rattle.error.specs.declared.Refusal.TheVariants.{RowStartCount, RowStartFalls, EntryCount, Column, Value}
use Rattle.error.specs.declared.Refusal.TheVariants.{Size, Tau, Radius, Bound, Length, Weight, NoNodes}
use Rattle.error.specs.declared.Refusal.TheVariants.{SegmentCount, PoolCount, Breakpoint, StepCount}
use Rattle.error.specs.declared.Refusal.TheVariants.{FirstBreakpoint, LookupTime, Law, SampledValue, Malformed}
use Rattle.error.specs.Answer.{Checked}
use Rattle.error.specs.Answer.{Accepted, Refused}

-- ---- an answer, read back from its number and values

as_count : Carried → ℕ
as_count (count k) = k
as_count (real x) = 0

as_real : Carried → Float
as_real (count k) = nan
as_real (real x) = x

-- rows with one count, one real, two reals
with_count : (ℕ → Refusal) → List Carried → Refusal
with_count row values = row (as_count (get_or values 0 (count 0)))

with_real : (Float → Refusal) → List Carried → Refusal
with_real row values = row (as_real (get_or values 0 (real nan)))

with_reals : (Float → Float → Refusal) → List Carried → Refusal
with_reals row values = row (as_real (get_or values 0 (real nan))) (as_real (get_or values 1 (real nan)))

-- the rows of the table, from 1 to 21
rows : List (List Carried → Refusal)
rows =
    with_count RowStartCount
    ∷ with_count RowStartFalls
    ∷ with_count EntryCount
    ∷ with_count Column
    ∷ with_real Value
    ∷ with_count Size
    ∷ with_real Tau
    ∷ with_reals Radius
    ∷ with_real Bound
    ∷ with_count Length
    ∷ with_real Weight
    ∷ with_count NoNodes
    ∷ with_count SegmentCount
    ∷ with_count PoolCount
    ∷ with_real Breakpoint
    ∷ with_count StepCount
    ∷ with_real FirstBreakpoint
    ∷ with_real LookupTime
    ∷ with_count Law
    ∷ with_real SampledValue
    ∷ with_count Malformed
    ∷ []

-- no number: Accepted; else the row with that number (the numbers that are no row's are not looked at)
read : List Carried → Checked
read [] = Accepted
read (number ∷ values) = Refused (get_or rows (as_count number - 1) (with_count Malformed) values)

-- ---- every answer is read back as it was

read_answer : (c : Checked) → read (answer_of c) ≡ c
unfolding read rows with_count with_real with_reals as_count as_real
read_answer Accepted = refl
read_answer (Refused (RowStartCount k)) = refl
read_answer (Refused (RowStartFalls k)) = refl
read_answer (Refused (EntryCount k)) = refl
read_answer (Refused (Column k)) = refl
read_answer (Refused (Value x)) = refl
read_answer (Refused (Size k)) = refl
read_answer (Refused (Tau x)) = refl
read_answer (Refused (Radius x y)) = refl
read_answer (Refused (Bound x)) = refl
read_answer (Refused (Length k)) = refl
read_answer (Refused (Weight x)) = refl
read_answer (Refused (NoNodes k)) = refl
read_answer (Refused (SegmentCount k)) = refl
read_answer (Refused (PoolCount k)) = refl
read_answer (Refused (Breakpoint x)) = refl
read_answer (Refused (StepCount k)) = refl
read_answer (Refused (FirstBreakpoint x)) = refl
read_answer (Refused (LookupTime x)) = refl
read_answer (Refused (Law k)) = refl
read_answer (Refused (SampledValue x)) = refl
read_answer (Refused (Malformed k)) = refl

pub answer-determines : (a b : Checked) → answer_of a ≡ answer_of b → a ≡ b
answer-determines a b p = sym (read_answer a) ∙ ap read p ∙ read_answer b
