-- What a run answers and leaves, from its checks' answer and the steps that were taken; and demand 3 of it. Assumes nothing.
use mathlib.Core.Path.{◌≡◌, refl, sym, ap, ◌∙◌, subst}
use mathlib.Core.Bool.{false}
use mathlib.Core.List.{List, []}
use Prim.Native.Nat.{ℕ, ◌≤◌}
use native.Mathlib.Omega.{arith}
use lib.Dec.{T, eqb}
use lib.ListN.{length, drop}
use lib.Ieee.{Float}
use Rattle.arithmetic.specs.SameList.{SameList}
use Rattle.arithmetic.proofs.Tabulate.{length-tabulate}
use Rattle.arithmetic.proofs.UpToZero.{same-list-refl}
use Rattle.scratch.specs.Parts.{part, put, zeros}
use Rattle.scratch.proofs.Parts.{length-put, part-of-put, drop-of-put, put-first-same}
use Rattle.error.specs.declared.Refusal.{Refusal}
use Rattle.error.specs.Answer.{Checked}
use Rattle.error.specs.Answer.{Accepted, Refused}
use Rattle.error.specs.Checks.{if_accepted}
use Rattle.error.proofs.Checks.{refused-here, accepted-then}
use Rattle.error.proofs.Left.{answers, left-unchanged, left-written}
use Rattle.magnus_plain_sum.specs.Run.{run_along}
use Rattle.magnus_plain_sum.proofs.PlainRun.{plain-run}
use Rattle.magnus_graph_faults.proofs.StepSound.{refused-not-accepted}
use Rattle.magnus_graph_traj_steps.specs.RunSteps.{RunStep, first_fault}
use Rattle.magnus_graph_traj_steps.specs.StepsTaken.{StepsTaken}
use Rattle.magnus_graph_traj_outcome.specs.RunOutcome.{Stepping, Run, run_answer, PlainRun, Ran}

-- demand 3 of each step: its image is that of the numbers it forms, and, where its premises hold, its plain step
pub record StepsPlain (stepping : Stepping) : Type 0 where
  pub same : (λ (s : RunStep). (stepping.formed s).apply) ≡ stepping.image
  pub plain : (s : RunStep) (v v' : List Float)
      → T (stepping.agrees s)
      → SameList v v'
      → T ((stepping.formed s).formed v)
      → SameList ((stepping.formed s).apply v) (stepping.plain s v')

-- the lengths that the checks accept, on n nodes, and that a run needs room for its signal
pub record RunLengths (run : Run) (n : ℕ) : Type 0 where
  pub of-signal : length run.signal ≡ n
  pub of_output : length run.output ≡ n
  pub within : n ≤ run.need

module _ (run : Run) where
  -- the signal that is held after the last step
  abbrev last : List Float
  last = run_along run.stepping.image run.steps run.signal

  module _ {check : Checked} (made : check ≡ run.checks) where
    -- a check refused
    pub run-refused : {r : Refusal} → check ≡ Refused r → Ran run check run.output run.work
    run-refused {r} p =
        let is : check ≡ run_answer run = refused-here check run.checks _ r made p in
        record {
          answers = answers is;
          output-is = left-unchanged _ _ (answers is) p;
          work-is = left-unchanged _ _ (answers made) p;
          plain = λ a. absurd (refused-not-accepted is p a);
        }

    module _ (accepted : check ≡ Accepted) {n : ℕ} (lengths : RunLengths run n) (each : StepsPlain run.stepping) where
      last-plain : {output : List Float} → output ≡ last → PlainRun run output
      last-plain is a agreed formed =
          subst (λ (x : List Float). SameList x (run_along run.stepping.plain run.steps run.signal)) (sym is)
          (subst
          (λ (image : RunStep → List Float → List Float).
          SameList (run_along image run.steps run.signal) (run_along run.stepping.plain run.steps run.signal)) each.same
          (plain-run run.stepping.formed run.stepping.plain run.stepping.agrees each.plain run.steps
          (same-list-refl run.signal) agreed formed))

      -- there is no step: the output is the signal
      pub run-copied : {output : List Float} → run.steps ≡ [] → output ≡ run.signal → Ran run Accepted output run.work
      unfolding first_fault run_along
      run-copied {output} none copied =
          let no-fault : Accepted ≡ first_fault run.stepping.fault run.steps = rw none in
          let is : Accepted ≡ run_answer run = accepted-then Accepted check run.checks _ made accepted no-fault in
          let held : output ≡ last = rw (none, copied) in
          record {
            answers = answers is;
            output-is = left-written _ _ (answers is) refl held;
            work-is = left-written _ _ (answers made) accepted (rw none);
            plain = last-plain held;
          }

      -- the signal was loaded into the work slice, and steps were taken
      module _ (some : eqb (length run.steps) 0 ≡ false) (room : run.need ≤ length run.work)
          {answer : Checked} (loaded taken cleared : List Float)
          (load : loaded ≡ put 0 run.signal run.work)
          (step : StepsTaken run.stepping.fault run.stepping.image n run.need run.steps answer loaded taken)
          (clear : cleared ≡ put 0 (zeros run.need) taken) where
        is : answer ≡ run_answer run
        is = accepted-then answer check run.checks _ made accepted step.answer-is

        -- only the needed part was written
        clean : cleared ≡ put 0 (zeros run.need) run.work
        clean =
            let before : length loaded ≡ length run.work = rw load (length-put 0 run.signal run.work) in
            let after : drop run.need loaded ≡ drop run.need run.work =
            rw load (drop-of-put 0 run.signal run.work run.need (omega (arith, lengths.of-signal, lengths.within))) in
            clear
            ∙ put-first-same run.need (zeros run.need) run.work taken (length-tabulate _ _) room
            (step.length-kept ∙ before) (step.rest run.need (omega arith) ∙ after)

        -- a step refused
        pub run-stopped : {r : Refusal} → answer ≡ Refused r → Ran run answer run.output cleared
        run-stopped p = record {
          answers = answers is;
          output-is = left-unchanged _ _ (answers is) p;
          work-is = left-written _ _ (answers made) accepted (rw some clean);
          plain = λ a. absurd (refused-not-accepted is p a);
        }

        -- none did, and what is held was stored
        pub run-done : {output : List Float}
            → answer ≡ Accepted
            → output ≡ part 0 (length run.output) taken
            → Ran run Accepted output cleared
        run-done {output} p stored =
            let signal : part 0 n loaded ≡ run.signal =
            rw load (part-of-put 0 n run.signal run.work lengths.of-signal (omega (arith, room, lengths.within))) in
            let held : output ≡ last =
            stored ∙ ap (λ (k : ℕ). part 0 k taken) lengths.of_output ∙ step.held p
            ∙ ap (run_along run.stepping.image run.steps) signal in
            let answered : Accepted ≡ run_answer run = sym p ∙ is in
            record {
              answers = answers answered;
              output-is = left-written _ _ (answers answered) refl held;
              work-is = left-written _ _ (answers made) accepted (rw some clean);
              plain = last-plain held;
            }

      -- the same, and then the run was finished
      module _ (some : eqb (length run.steps) 0 ≡ false) (room : run.need ≤ length run.work)
          {taken answer : Checked} {loaded stepped cleared output : List Float}
          (load : loaded ≡ put 0 run.signal run.work)
          (step : StepsTaken run.stepping.fault run.stepping.image n run.need run.steps taken loaded stepped)
          (finish : (answer ≡ taken) × (output ≡ if_accepted taken (part 0 (length run.output) stepped) run.output)
          × (cleared ≡ put 0 (zeros run.need) stepped)) where
        -- whether a step refused or none did, that is one of the two above
        finished : (t : Checked) → taken ≡ t → Ran run answer output cleared
        unfolding if_accepted
        finished Accepted p =
            subst (λ (a : Checked). Ran run a output cleared) (sym (finish.0 ∙ p))
            (run-done some room loaded stepped cleared load step finish.2 p
            (finish.1 ∙ ap (λ (c : Checked). if_accepted c (part 0 (length run.output) stepped) run.output) p))
        finished (Refused r) p =
            let kept : output ≡ run.output =
            finish.1 ∙ ap (λ (c : Checked). if_accepted c (part 0 (length run.output) stepped) run.output) p in
            subst (λ (a : Checked). Ran run a output cleared) (sym finish.0)
            (subst (λ (out : List Float). Ran run taken out cleared) (sym kept)
            (run-stopped some room loaded stepped cleared load step finish.2 p))

        pub run-finished : Ran run answer output cleared
        run-finished = finished taken refl
