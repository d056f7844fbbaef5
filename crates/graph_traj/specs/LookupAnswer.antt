-- What `segment_index` answers (01, part 10): a segment or a refusal, which has 01's number and values. Assumes nothing.
use Rattle.std.specs.Prelude.{◌≡◌, ℕ, Result, Ok, Err}
use Rattle.error.specs.declared.Refusal.{Refusal}
use Rattle.error.specs.Answer.{Checked, Accepted, Refused}
use Rattle.error.specs.Refusals.{Answers}

-- the check that an answer comes from: a segment is given where the check accepts
unfoldable pub check_of : Result ℕ Refusal → Checked
check_of (Ok i) = Accepted
check_of (Err r) = Refused r

-- the answer says the fault's number and values, and where there is no fault it is the segment
pub record LookupAnswers (answer : Result ℕ Refusal) (fault : Checked) (segment : ℕ) : Type 0 where
  pub refusal : Answers (check_of answer) fault
  pub given : fault ≡ Accepted → answer ≡ Ok segment
