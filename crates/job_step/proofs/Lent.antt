-- A call that is lent the fields of a job is the job's step. Assumes nothing.
use mathlib.Core.Path.{◌≡◌, subst}
use mathlib.Core.Bool.{Bool, true, false}
use mathlib.Core.List.{List}
use Prim.Native.Nat.{ℕ, ◌*◌}
use lib.Ieee.{Float}
use Rattle.scratch.specs.Parts.{zeros}
use Rattle.error.specs.Answer.{Checked}
use Rattle.magnus_graph_faults.specs.StepChecks.{Sample}
use Rattle.magnus_graph_outcome.specs.StepOutcome.{StepInput, step_input, Stepped, step_answer, step_output, forward, adjoint}
use Rattle.varcoef_magnus_graph_outcome.specs.StepOutcome.{StepInput as WeightedInput, step_input as weighted_input, Stepped as WeightedStepped}
use Rattle.varcoef_magnus_graph_outcome.specs.StepOutcome.{step_answer as weighted_answer, step_output as weighted_output}
use Rattle.magnus6_graph_outcome.specs.StepOutcome.{Step6Input, step6_input, Stepped6, step6_answer, step6_output}
use Rattle.job_format.specs.JobFormat.{Job}
use Rattle.job_step.specs.JobOutcome.{with_values, job_sign, job_step, job_weighted_step, job_step6, job_step_answer, job_step_output}
use Rattle.job_step.specs.Stepped.{Fields, Numbers, Taken}

-- the commutator's sign, where bit 8 stands and where it does not
pub adjoint-sign : (job : Job) → job.adjoint ≡ true → adjoint ≡ job_sign job
unfolding job_sign
adjoint-sign job p = rw p

pub forward-sign : (job : Job) → job.adjoint ≡ false → forward ≡ job_sign job
unfolding job_sign
forward-sign job p = rw p

module _ (job : Job) {starts cols : List ℕ} {vals1 vals2 signal output : List Float} {first second : Sample} {tau bound root_bound : Float}
    {checked adj : Bool} (fields : Fields job starts cols vals1 vals2 signal) (first-is : first ≡ with_values job vals1)
    (second-is : second ≡ with_values job vals2) (numbers : Numbers job tau bound root_bound checked adj) (out-is : output ≡ zeros job.nodes)
  where
    -- the unweighted step
    pub step-taken : {work : List Float} {sign : Float} {answer : Checked} {out w : List Float}
        → work ≡ zeros (5 * job.nodes)
        → sign ≡ job_sign job
        → Stepped sign (step_input first second tau bound checked signal output work) answer out w
        → Taken answer (step_answer (job_sign job) (job_step job)) out (step_output (job_sign job) (job_step job))
    unfolding job_step
    step-taken {work} {sign} {answer} {out} {w} work-is p s =
        let is : step_input first second tau bound checked signal output work ≡ job_step job = cc in
        let t = subst (λ (i : StepInput). Stepped sign i answer out w) is s in
        let u = subst (λ (x : Float). Stepped x (job_step job) answer out w) p t in
        record { answers = u.answers; output-is = u.output-is }

    -- the weighted step
    pub weighted-taken : {work weights1 weights2 : List Float} {sign : Float} {answer : Checked} {out w : List Float}
        → work ≡ zeros (9 * job.nodes)
        → weights1 ≡ job.weights1
        → weights2 ≡ job.weights2
        → sign ≡ job_sign job
        → WeightedStepped sign (weighted_input first second tau bound root_bound checked weights1 weights2 signal output work) answer out w
        → Taken answer (weighted_answer (job_sign job) (job_weighted_step job)) out (weighted_output (job_sign job) (job_weighted_step job))
    unfolding job_weighted_step
    weighted-taken {work} {weights1} {weights2} {sign} {answer} {out} {w} work-is weights1-are weights2-are p s =
        let is : weighted_input first second tau bound root_bound checked weights1 weights2 signal output work ≡ job_weighted_step job = cc in
        let t = subst (λ (i : WeightedInput). WeightedStepped sign i answer out w) is s in
        let u = subst (λ (x : Float). WeightedStepped x (job_weighted_step job) answer out w) p t in
        record { answers = u.answers; output-is = u.output-is }

    -- the step of order 6
    pub step6-taken : {work vals3 : List Float} {third : Sample} {answer : Checked} {out w : List Float}
        → work ≡ zeros (22 * job.nodes)
        → third ≡ with_values job vals3
        → vals3 ≡ job.vals3
        → Stepped6 (step6_input first second third tau bound checked signal output work) answer out w
        → Taken answer (step6_answer (job_step6 job)) out (step6_output (job_step6 job))
    unfolding job_step6
    step6-taken {work} {vals3} {third} {answer} {out} {w} work-is third-is vals3-are s =
        let is : step6_input first second third tau bound checked signal output work ≡ job_step6 job = cc in
        let t = subst (λ (i : Step6Input). Stepped6 i answer out w) is s in
        record { answers = t.answers; output-is = t.output-is }

-- the map selects the step
module _ (job : Job) where
  pub order6-selected : job.order6 ≡ true
      → (job_step_answer job ≡ step6_answer (job_step6 job)) × (job_step_output job ≡ step6_output (job_step6 job))
  unfolding job_step_answer job_step_output
  order6-selected p = (rw p, rw p)

  pub weighted-selected : job.order6 ≡ false
      → job.weighted ≡ true
      → (job_step_answer job ≡ weighted_answer (job_sign job) (job_weighted_step job))
      × (job_step_output job ≡ weighted_output (job_sign job) (job_weighted_step job))
  unfolding job_step_answer job_step_output
  weighted-selected p q = (rw (p, q), rw (p, q))

  pub unweighted-selected : job.order6 ≡ false
      → job.weighted ≡ false
      → (job_step_answer job ≡ step_answer (job_sign job) (job_step job))
      × (job_step_output job ≡ step_output (job_sign job) (job_step job))
  unfolding job_step_answer job_step_output
  unweighted-selected p q = (rw (p, q), rw (p, q))
