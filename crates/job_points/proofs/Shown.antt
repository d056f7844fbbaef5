-- Document 01's job, from its bytes: what the definitions give is what 01 says, forward and adjoint alike. Assumes nothing.
use mathlib.Core.Path.{◌≡◌, refl, subst}
use mathlib.Core.List.{List, [], ◌∷◌, ◌++◌, map}
use Prim.Native.Nat.{ℕ}
use lib.ListN.{length, take, drop, replicate}
use lib.Ieee.{Float, binary64, add, sub, mul, div, neg, of_bits, of_int, lt, le, eq}
use Rattle.arithmetic.specs.Vector.{tabulate}
use Rattle.arithmetic.specs.Product.{sum_to, entries, row_sum}
use Rattle.error.specs.Checks.{refuse_if, refuse_unequal, next, if_accepted}
use Rattle.error.specs.Lengths.{length_fault}
use Rattle.error.specs.Refusals.{count, answer_of}
use Rattle.error.specs.Answer.{Accepted}
use Rattle.graph_checks.specs.First.{first, refuse_first}
use Rattle.graph_checks.specs.PatternChecks.{size_fault, row_start_count_fault, row_starts_fault, entry_count_fault, column_fault, value_fault}
use Rattle.graph_checks.specs.PatternChecks.{shape_fault, pattern_fault, csr_fault}
use Rattle.magnus.specs.Coefficients.{factorial, reciprocal_factorial}
use Rattle.magnus.specs.Operators.{omega4, power, taylor}
use Rattle.magnus_graph_faults.specs.StepChecks.{not_positive, bound_fault, tau_fault, radius_fault, room_fault, sample_fault, samples_fault}
use Rattle.magnus_graph_faults.specs.StepChecks.{step_length_fault, lengths_fault, step_fault}
use Rattle.little_endian.specs.LittleEndian.{little_endian}
use Rattle.job_format.specs.JobFormat.{word16, real, words16, reals, stands, required, allowed, field_sizes, field_start}
use Rattle.job_format.specs.JobFormat.{job_map, job_nodes, job_entries, job_has, job_field, malformed, malformed_fault, job_row_starts}
use Rattle.job_format.specs.JobFormat.{job_columns, job_values, job_tau, job_bound, job_signal}
use Rattle.job_step.specs.JobOutcome.{job_sign, job_step, job_step_answer, job_step_output, job_answer, job_output}
use Rattle.job_text.specs.Text.{DoneText}
use Rattle.job_text.proofs.Only.{example-done}
use Rattle.job_run.specs.JobText.{JobText}
use Rattle.job_run.proofs.Texts.{accepted-text}
use Rattle.job_points.specs.ExampleJob.{bytes, numbers, example_job, example_text}

abbrev values : List Float
values = of_bits binary64 0x3FE5_5555_5555_5556 ∷ of_bits binary64 0x3FD5_5555_5555_5555 ∷ []

-- the job with a map is accepted, with these values
abbrev Given : ℕ → Type 0
Given m = (job_answer (example_job m) ≡ Accepted) × (job_output (example_job m) ≡ values)

-- so it is, computed in one step: the map is 0x0097 forward and 0x0197 adjoint
pub given : Given 0x0097 × Given 0x0197
unfolding bytes numbers example_job little_endian word16 real words16 reals stands required allowed field_sizes field_start job_map job_nodes job_entries job_has job_field malformed malformed_fault job_row_starts job_columns job_values job_tau job_bound job_signal job_sign job_step job_step_answer job_step_output job_answer job_output add sub mul div neg of_bits of_int lt le eq tabulate sum_to entries row_sum refuse_if refuse_unequal next if_accepted length_fault first refuse_first size_fault row_start_count_fault row_starts_fault entry_count_fault column_fault value_fault shape_fault pattern_fault csr_fault factorial reciprocal_factorial omega4 power taylor not_positive bound_fault tau_fault radius_fault room_fault sample_fault samples_fault step_length_fault lengths_fault step_fault
given = ((refl, refl), (refl, refl))

-- and then it prints, whole, the three lines that 01 has
printed : (m : ℕ) {text : List ℕ} → Given m → JobText (example_job m) text → text ≡ example_text
unfolding example_text
printed m {text} g t =
    example-done (subst (λ (v : List Float). DoneText v text) g.1 ((accepted-text (example_job m) text g.0).0 t))

pub printed-forward : {text : List ℕ} → JobText (example_job 0x0097) text → text ≡ example_text
printed-forward = printed 0x0097 given.0

pub printed-adjoint : {text : List ℕ} → JobText (example_job 0x0197) text → text ≡ example_text
printed-adjoint = printed 0x0197 given.1

-- Malformed jobs, refused with their byte count: of none and of one byte; a byte too many and one too few; then, each as long as its map calls
-- for, with bit 9, without bits 0, 1, 2, 4 and 7, with bit 3 and 6, with bit 3 and 8, of 65 nodes, of 513 entries.
abbrev malformed_jobs : List (List ℕ)
malformed_jobs =
    []
    ∷ (0x97 ∷ [])
    ∷ (example_job 0x0097 ++ (0 ∷ []))
    ∷ take 107 (example_job 0x0097)
    ∷ example_job 0x0297
    ∷ take 90 (example_job 0x0096)
    ∷ take 76 (example_job 0x0095)
    ∷ take 76 (example_job 0x0093)
    ∷ take 100 (example_job 0x0087)
    ∷ take 92 (example_job 0x0017)
    ∷ (example_job 0x00DF ++ replicate 72 0)
    ∷ (example_job 0x019F ++ replicate 32 0)
    ∷ (numbers 2 (0x0097 ∷ 65 ∷ 0 ∷ []) ++ replicate 660 0)
    ∷ (numbers 2 (0x0097 ∷ 0 ∷ 513 ∷ []) ++ replicate 9244 0)
    ∷ []

pub malformed-jobs : map (λ job. answer_of (malformed_fault job)) malformed_jobs
    ≡ map (λ k. count 21 ∷ count k ∷ []) (0 ∷ 1 ∷ 109 ∷ 107 ∷ 108 ∷ 90 ∷ 76 ∷ 76 ∷ 100 ∷ 92 ∷ 180 ∷ 140 ∷ 666 ∷ 9250 ∷ [])
unfolding bytes numbers example_job little_endian word16 stands required allowed field_sizes field_start job_map job_nodes job_entries job_field malformed malformed_fault refuse_if
malformed-jobs = refl

-- the last ten are as long as their maps call for
pub lengths-called-for : map (λ job. job_field job 9) (drop 4 malformed_jobs) ≡ map length (drop 4 malformed_jobs)
unfolding bytes numbers example_job little_endian word16 stands field_sizes field_start job_map job_nodes job_entries job_field
lengths-called-for = refl

-- The largest jobs are not malformed: 64 nodes and 512 entries, of order 6 with a bound, and weighted adjoint with a bound.
pub largest-jobs :
    map malformed_fault
    ((numbers 2 (0x00BF ∷ 64 ∷ 512 ∷ []) ++ replicate 13970 0) ∷ (numbers 2 (0x01F7 ∷ 64 ∷ 512 ∷ []) ++ replicate 10906 0) ∷ [])
    ≡ Accepted ∷ Accepted ∷ []
unfolding bytes numbers little_endian word16 stands required allowed field_sizes field_start job_map job_nodes job_entries job_field malformed malformed_fault refuse_if
largest-jobs = refl
