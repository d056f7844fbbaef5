-- The answer of `gershgorin_bound_csr`, from what its check answered. Assumes nothing.
use mathlib.Core.Path.{◌≡◌, sym, ap, ◌∙◌}
use Prim.Native.Nat.{ℕ}
use native.Mathlib.Omega.{arith}
use lib.Ieee.{Float}
use Rattle.std.specs.Prelude.{Ok, Err}
use Rattle.error.specs.declared.Refusal.{Refusal}
use Rattle.error.specs.Answer.{Checked}
use Rattle.error.specs.Answer.{Accepted, Refused}
use Rattle.error.specs.Refusals.{Answers}
use Rattle.error.proofs.Left.{answers, answers-accepted, fault-is}
use Rattle.graph.specs.BoundAnswer.{BoundAnswers, check_of}

-- the check accepts, and x is the bound
pub bound-given : {check fault : Checked} {bound x : Float}
    → Answers check fault
    → check ≡ Accepted
    → x ≡ bound
    → BoundAnswers (Ok x) fault bound
unfolding check_of
bound-given h p e = record { refusal = answers-accepted h p; given = λ q. ap Ok e }

-- the check refuses, and so does the call
pub bound-refused : {check fault : Checked} {bound : Float} {r : Refusal}
    → Answers check fault
    → check ≡ Refused r
    → BoundAnswers (Err r) fault bound
unfolding check_of
bound-refused {r = r} h p = record {
  refusal = answers (sym p ∙ fault-is h);
  given = λ q. absurd (not-both (sym p ∙ fault-is h ∙ q));
}
  where
    not-both : Refused r ≡ Accepted → ⊥
    not-both e = let z : ◌≡◌ {A = ℕ} 0 1 = cc in omega arith
