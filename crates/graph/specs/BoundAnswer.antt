-- What `gershgorin_bound_csr` answers (01, part 2): a bound or a refusal, and the refusal has 01's number and values. Assumes nothing.
use Rattle.std.specs.Prelude.{◌≡◌, Result, Ok, Err, Float}
use Rattle.error.specs.declared.Refusal.{Refusal}
use Rattle.error.specs.Answer.{Checked}
use Rattle.error.specs.Answer.{Accepted, Refused}
use Rattle.error.specs.Refusals.{Answers}

-- the check that an answer comes from: a bound is given where the check accepts
unfoldable pub check_of : Result Float Refusal → Checked
check_of (Ok b) = Accepted
check_of (Err r) = Refused r

-- the answer says the fault's number and values, and where there is no fault it is the bound
pub record BoundAnswers (answer : Result Float Refusal) (fault : Checked) (bound : Float) : Type 0 where
  pub refusal : Answers (check_of answer) fault
  pub given : fault ≡ Accepted → answer ≡ Ok bound
