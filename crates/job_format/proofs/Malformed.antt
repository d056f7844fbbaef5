-- What the check of a job answers, from the tests that it makes. Assumes nothing.
use mathlib.Core.Path.{◌≡◌, refl, ap, ◌∙◌}
use mathlib.Core.Bool.{Bool, true, false, not, ◌||◌, true≢false}
use mathlib.Core.List.{List}
use Prim.Native.Nat.{ℕ, ◌≤◌, ◌<◌, min}
use native.Mathlib.Omega.{arith}
use lib.Dec.{eqb, ltb}
use lib.ListN.{length}
use borrow.Author.Tests.{ltb-false, lt-ltb}
use Rattle.error.specs.Refusals.{Answers}
use Rattle.error.specs.declared.Refusal.TheVariants.{Malformed}
use Rattle.error.specs.Answer.{Accepted, Refused}
use Rattle.error.proofs.Checks.{refuse_if-accepted, refuse_if-refused, refuses, accepts}
use Rattle.error.proofs.Left.{answers}
use Rattle.job_format.specs.JobFormat.{allowed, job_map, job_nodes, job_entries, job_field, malformed, malformed_fault}

-- the check's answer, where the bytes are no job, and where they are one
pub refuses-job : (bytes : List ℕ) {count : ℕ}
    → malformed bytes ≡ true
    → count ≡ min (length bytes) 16385
    → Answers (Refused (Malformed count)) (malformed_fault bytes)
unfolding malformed_fault
refuses-job bytes t e = answers (ap (λ (k : ℕ). Refused (Malformed k)) e ∙ refuses _ _ t)

pub accepts-job : (bytes : List ℕ) → malformed bytes ≡ false → Answers Accepted (malformed_fault bytes)
unfolding malformed_fault
accepts-job bytes t = answers (accepts _ _ t)

-- of six tests none holds, so the fourth and the fifth do not
fourth-and-fifth : (a b c d e f : Bool)
    → (a || (b || (c || (d || (e || f))))) ≡ false
    → (d ≡ false) × (e ≡ false)
fourth-and-fifth false false false false false f h = (refl, refl)
fourth-and-fifth false false false false true f h = absurd (true≢false h)
fourth-and-fifth false false false true e f h = absurd (true≢false h)
fourth-and-fifth false false true d e f h = absurd (true≢false h)
fourth-and-fifth false true c d e f h = absurd (true≢false h)
fourth-and-fifth true b c d e f h = absurd (true≢false h)

-- an accepted job has at most 64 nodes and 512 entries
pub accepted-sizes : (bytes : List ℕ) → malformed_fault bytes ≡ Accepted → (job_nodes bytes ≤ 64) × (job_entries bytes ≤ 512)
unfolding malformed_fault malformed
accepted-sizes bytes h =
    let small =
    fourth-and-fifth (ltb (length bytes) 2) (ltb 16384 (length bytes)) (not (allowed (job_map bytes))) (ltb 64 (job_nodes bytes))
    (ltb 512 (job_entries bytes)) (not (eqb (length bytes) (job_field bytes 9))) ((refuse_if-accepted _ _).0 h) in
    (ltb-false _ _ small.0, ltb-false _ _ small.1)

-- a job of more than 16,384 bytes is refused with 16,385
pub longer-refused : (bytes : List ℕ) → 16384 < length bytes → malformed_fault bytes ≡ Refused (Malformed 16385)
unfolding malformed_fault malformed
longer-refused bytes h =
    let long : min (length bytes) 16385 ≡ 16385 = omega arith in
    let fails : malformed bytes ≡ true = rw (lt-ltb 16384 (length bytes) h) (or-true (ltb (length bytes) 2)) in
    (refuse_if-refused _ _ _).1 (fails, ap Malformed long)
  where
    or-true : (a : Bool) → (a || true) ≡ true
    or-true true = refl
    or-true false = refl
