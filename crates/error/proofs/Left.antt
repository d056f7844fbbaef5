-- What a call answers and leaves, from what its check answered: where the check refused, its refusal, and everything as it was; where it
-- accepted, what the call wrote. Assumes nothing.
use mathlib.Core.Path.{◌≡◌, sym, ap, ◌∙◌}
use Rattle.error.specs.Checks.{if_accepted}
use Rattle.error.specs.Refusals.{answer_of, Answers}
use Rattle.error.specs.declared.Refusal.{Refusal}
use Rattle.error.specs.Answer.{Checked}
use Rattle.error.specs.Answer.{Accepted, Refused}
use Rattle.error.proofs.Checks.{left-when-accepted, left-when-refused}
use Rattle.error.proofs.Refusals.{answer-determines}

pub answers : {check fault : Checked} → check ≡ fault → Answers check fault
answers p = record { equal = ap answer_of p }

-- the fault is what the check answered
pub fault-is : {check fault : Checked} → Answers check fault → check ≡ fault
fault-is {check} {fault} h = answer-determines check fault h.equal

pub fault-accepted : {check fault : Checked} → Answers check fault → check ≡ Accepted → fault ≡ Accepted
fault-accepted h p = sym (fault-is h) ∙ p

-- the check accepted, and so does the call
pub answers-accepted : {check fault : Checked} → Answers check fault → check ≡ Accepted → Answers Accepted fault
answers-accepted h p = answers (sym (fault-accepted h p))

pub left-unchanged : {check fault : Checked} {A : Type 0} {r : Refusal} (a b : A)
    → Answers check fault
    → check ≡ Refused r
    → b ≡ if_accepted fault a b
left-unchanged {fault = fault} {r = r} a b h p = sym (left-when-refused fault r a b (sym (fault-is h) ∙ p))

pub left-written : {check fault : Checked} {A : Type 0} {x : A} (a b : A)
    → Answers check fault
    → check ≡ Accepted
    → x ≡ a
    → x ≡ if_accepted fault a b
left-written {fault = fault} a b h p e = e ∙ sym (left-when-accepted fault a b (fault-accepted h p))
