-- The text of a job, from that of its answer. Assumes nothing.
use mathlib.Core.Path.{◌≡◌, refl, sym, subst, subst⁻¹}
use mathlib.Core.Logic.{◌↔◌, inl}
use mathlib.Core.List.{List}
use Prim.Native.Nat.{ℕ}
use lib.Ieee.{Float}
use Rattle.error.specs.declared.Refusal.{Refusal}
use Rattle.error.specs.Answer.{Checked}
use Rattle.error.specs.Answer.{Accepted, Refused}
use Rattle.error.proofs.Checks.{next-refused, accepted-then}
use Rattle.error.proofs.Left.{fault-is}
use Rattle.job_text.specs.Text.{DoneText, RefusedText}
use Rattle.job_format.specs.JobFormat.{job_of, malformed_fault}
use Rattle.job_format.proofs.Malformed.{accepted-sizes}
use Rattle.job_step.specs.JobOutcome.{job_step_answer, job_step_output, job_answer, job_output}
use Rattle.job_step.specs.Stepped.{Small, Taken}
use Rattle.job_answer.specs.AnswerText.{AnswerText}
use Rattle.job_run.specs.JobText.{JobText}

-- the step was taken, and the text is that of its answer
pub step-written : {answer fault : Checked} {values left : List Float} (text : List ℕ)
    → Taken answer fault values left
    → AnswerText answer values text
    → AnswerText fault left text
step-written text taken t = rw (← fault-is taken.answers, ← taken.output-is) t

-- a malformed job, and another one
pub malformed-text : (job text : List ℕ) {r : Refusal} → malformed_fault job ≡ Refused r → RefusedText r text → JobText job text
unfolding AnswerText job_answer
malformed-text job text {r} p t =
    let answer : job_answer job ≡ Refused r = (next-refused (malformed_fault job) (job_step_answer (job_of job)) r).1 (inl p) in
    record { is = subst⁻¹ (λ (a : Checked). AnswerText a (job_output job) text) answer t }

pub job-text : (job text : List ℕ)
    → malformed_fault job ≡ Accepted
    → AnswerText (job_step_answer (job_of job)) (job_step_output (job_of job)) text
    → JobText job text
unfolding job_answer job_output
job-text job text p t =
    let answer = accepted-then (job_step_answer (job_of job)) (malformed_fault job) (malformed_fault job) (job_step_answer (job_of job)) refl p refl in
    record { is = subst⁻¹ (λ (a : Checked). AnswerText a (job_step_output (job_of job)) text) (sym answer) t }

-- the texts of an accepted job
pub accepted-text : (job text : List ℕ) → job_answer job ≡ Accepted → JobText job text ↔ DoneText (job_output job) text
unfolding AnswerText
accepted-text job text p = (
  λ t. subst (λ (a : Checked). AnswerText a (job_output job) text) p t.is,
  λ d. record { is = subst⁻¹ (λ (a : Checked). AnswerText a (job_output job) text) p d },
)

-- a job that is not malformed is small
pub small : (job : List ℕ) → malformed_fault job ≡ Accepted → Small job
small job p = let sizes = accepted-sizes job p in record { nodes = sizes.0; entries = sizes.1 }
