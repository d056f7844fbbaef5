-- The number and the values that document 01 gives each refusal (the table of "What a call answers"). A promise names
-- the case; proofs/Refusals.antt shows that it says as much as the number and the values. Assumes nothing.
use Rattle.std.specs.Prelude.{◌≡◌, List, [], ◌∷◌, ℕ, Float}
use Rattle.error.specs.declared.Refusal.{Refusal}
use Rattle.error.specs.declared.Refusal.TheVariants.{RowStartCount, RowStartFalls, EntryCount, Column, Value}
use Rattle.error.specs.declared.Refusal.TheVariants.{Size, Tau, Radius, Bound, Length, Weight, NoNodes}
use Rattle.error.specs.declared.Refusal.TheVariants.{SegmentCount, PoolCount, Breakpoint, StepCount}
use Rattle.error.specs.declared.Refusal.TheVariants.{FirstBreakpoint, LookupTime, Law, SampledValue, Malformed}
use Rattle.error.specs.Answer.{Checked}
use Rattle.error.specs.Answer.{Accepted, Refused}

-- a value that a refusal carries: a whole count or a real
pub data Carried : Type 0 where
  count : ℕ → Carried
  real : Float → Carried

-- the row's number
abbrev pub number_of : Refusal → ℕ
number_of (RowStartCount k) = 1
number_of (RowStartFalls i) = 2
number_of (EntryCount k) = 3
number_of (Column j) = 4
number_of (Value x) = 5
number_of (Size k) = 6
number_of (Tau t) = 7
number_of (Radius t b) = 8
number_of (Bound b) = 9
number_of (Length l) = 10
number_of (Weight w) = 11
number_of (NoNodes n) = 12
number_of (SegmentCount k) = 13
number_of (PoolCount k) = 14
number_of (Breakpoint x) = 15
number_of (StepCount k) = 16
number_of (FirstBreakpoint x) = 17
number_of (LookupTime t) = 18
number_of (Law l) = 19
number_of (SampledValue x) = 20
number_of (Malformed k) = 21

-- the values, in the row's order
abbrev pub values_of : Refusal → List Carried
values_of (RowStartCount k) = count k ∷ []
values_of (RowStartFalls i) = count i ∷ []
values_of (EntryCount k) = count k ∷ []
values_of (Column j) = count j ∷ []
values_of (Value x) = real x ∷ []
values_of (Size k) = count k ∷ []
values_of (Tau t) = real t ∷ []
values_of (Radius t b) = real t ∷ real b ∷ []
values_of (Bound b) = real b ∷ []
values_of (Length l) = count l ∷ []
values_of (Weight w) = real w ∷ []
values_of (NoNodes n) = count n ∷ []
values_of (SegmentCount k) = count k ∷ []
values_of (PoolCount k) = count k ∷ []
values_of (Breakpoint x) = real x ∷ []
values_of (StepCount k) = count k ∷ []
values_of (FirstBreakpoint x) = real x ∷ []
values_of (LookupTime t) = real t ∷ []
values_of (Law l) = count l ∷ []
values_of (SampledValue x) = real x ∷ []
values_of (Malformed k) = count k ∷ []

-- an answer as the table has it: the number and then the values of a refusal, and nothing where the call is accepted
abbrev pub answer_of : Checked → List Carried
answer_of Accepted = []
answer_of (Refused r) = count (number_of r) ∷ values_of r

-- What a call promises of its answer: it has the number and the values that the table gives the fault.
-- A record, and not the equation itself, so that its two answers can be implicit arguments.
pub record Answers (answer fault : Checked) : Type 0 where
  pub equal : answer_of answer ≡ answer_of fault
