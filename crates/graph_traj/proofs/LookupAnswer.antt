-- The answer of `segment_index`, from what its checks answered. Assumes nothing.
use Rattle.std.proofs.Common.{◌≡◌, ℕ, ap, ◌∙◌, arith, Result, Ok, Err}
use Rattle.error.specs.declared.Refusal.{Refusal}
use Rattle.error.specs.Answer.{Checked, Accepted, Refused}
use Rattle.error.proofs.Left.{answers}
use Rattle.graph_traj.specs.LookupAnswer.{LookupAnswers, check_of}

-- the checks accept, and i is the segment
pub segment-given : {fault : Checked} {segment i : ℕ} → Accepted ≡ fault → i ≡ segment → LookupAnswers (Ok i) fault segment
unfolding check_of
segment-given h e = record { refusal = answers h; given = λ q. ap Ok e }

-- they refuse, and so does the call
pub segment-refused : {answer : Result ℕ Refusal} {fault : Checked} {segment : ℕ} {r : Refusal}
    → answer ≡ Err r
    → Refused r ≡ fault
    → LookupAnswers answer fault segment
unfolding check_of
segment-refused {r = r} p h = record { refusal = answers (ap check_of p ∙ h); given = λ q. absurd (not-both (h ∙ q)) }
  where
    not-both : Refused r ≡ Accepted → ⊥
    not-both e = let z : ◌≡◌ {A = ℕ} 0 1 = cc in omega arith
