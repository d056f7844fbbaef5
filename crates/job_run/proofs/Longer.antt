-- A job of more than 16,384 bytes prints `refused 21 16385`, whatever its bytes are; so a program may read its first 16,385 bytes and
-- leave the rest. Assumes nothing.
use mathlib.Core.Path.{◌≡◌, subst, subst⁻¹}
use mathlib.Core.Logic.{◌↔◌, inl}
use mathlib.Core.List.{List}
use Prim.Native.Nat.{ℕ, ◌<◌}
use native.Mathlib.Omega.{arith}
use lib.ListN.{length, take}
use lib.Seq.{length-take-le}
use Rattle.error.specs.declared.Refusal.TheVariants.{Malformed}
use Rattle.error.specs.Answer.{Checked}
use Rattle.error.specs.Answer.{Refused}
use Rattle.error.proofs.Checks.{next-refused}
use Rattle.job_text.specs.Text.{RefusedText}
use Rattle.job_format.proofs.Malformed.{longer-refused}
use Rattle.job_step.specs.JobOutcome.{job_answer, job_output}
use Rattle.job_answer.specs.AnswerText.{AnswerText}
use Rattle.job_run.specs.JobText.{JobText}

longer-answer : (job : List ℕ) → 16384 < length job → job_answer job ≡ Refused (Malformed 16385)
unfolding job_answer
longer-answer job h = (next-refused _ _ _).1 (inl (longer-refused job h))

pub longer-text : (job text : List ℕ) → 16384 < length job → JobText job text ↔ RefusedText (Malformed 16385) text
unfolding AnswerText
longer-text job text h =
    let answer = longer-answer job h in (
      λ t. subst (λ (a : Checked). AnswerText a (job_output job) text) answer t.is,
      λ t. record { is = subst⁻¹ (λ (a : Checked). AnswerText a (job_output job) text) answer t },
    )

pub first-bytes : (job text : List ℕ) → 16384 < length job → JobText (take 16385 job) text ↔ JobText job text
first-bytes job text h =
    let long : 16384 < length (take 16385 job) = rw (length-take-le 16385 job h) (omega arith) in (
      λ t. (longer-text job text h).1 ((longer-text (take 16385 job) text long).0 t),
      λ t. (longer-text (take 16385 job) text long).1 ((longer-text job text h).0 t),
    )
