-- `evolve_state_adjoint_into` meets its contract: it makes the checks of `weighted_adjoint_run_fault`; where they accept and there are steps,
-- the signal is loaded into the work slice, the steps are taken there, what is held after the last is stored, and the needed part of the
-- work slice is cleared. With no steps the signal is copied. Demand 3 follows from the definitions. Assumes nothing.
use Rattle.std.proofs.Common.{ℕ, ◌<◌, sym, ap, ◌∙◌, arith}
use mathlib.Core.Path.{subst}
use lib.Dec.{T}
use Rattle.scratch.specs.Parts.{part}
use Rattle.scratch.proofs.Parts.{part-whole}
use Rattle.magnus_graph_outcome.specs.StepOutcome.{adjoint}
use Rattle.graph_traj_parts.specs.Trajectory.{trajectory_of}
use Rattle.graph_traj_adjoint_faults.proofs.AdjointRunSound.{weighted-adjoint-run-accepted}
use Rattle.magnus_graph_traj_steps.specs.RunSteps.{adjoint_course}
use Rattle.magnus_graph_traj_outcome.proofs.RunOutcome.{RunLengths, run-refused, run-copied, run-finished}
use Rattle.magnus_graph_traj_outcome.proofs.AcceptedRuns.{adjoint-some, adjoint-none}
use Rattle.varcoef_magnus_graph_adjoint.specs.WeightedRunOutcome.{weighted_adjoint_run}
use Rattle.varcoef_magnus_graph_adjoint.proofs.StepPlain.{steps-plain}
use Rattle.varcoef_magnus_graph_adjoint.proofs.evolve_state_adjoint_into.Goals as goal

pub returns-in_default : goal.returns-in_default
returns-in_default c =
    let a = c.args in
    let t = trajectory_of a.trajectory in
    let run = weighted_adjoint_run t a.tau a.steps a.bound.rho_bar_max a.weights.a_sup_max a.bound.convergence_radius_check a.weights.first.now a.weights.second.now
    a.src.now a.dst.now a.work.now in
    run-refused run (rw c.of-lengths.ensures at c.check_weighted_adjoint_run-checked.ensures) c.in_default.is

pub store-requires : goal.store-requires
store-requires c =
    let a = c.args in
    let ok = (weighted-adjoint-run-accepted _ _ _ _ _ _ _ _ _ _ _).0 (sym (rw c.of-lengths.ensures at c.check_weighted_adjoint_run-checked.ensures) ∙ c.in-Ok.is) in
    omega (arith, ok.signals.signal-length, ok.signals.output-length)

pub returns-then-no_steps : goal.returns-then-no_steps
returns-then-no_steps c =
    let a = c.args in
    let t = trajectory_of a.trajectory in
    let run = weighted_adjoint_run t a.tau a.steps a.bound.rho_bar_max a.weights.a_sup_max a.bound.convergence_radius_check a.weights.first.now a.weights.second.now
    a.src.now a.dst.now a.work.now in
    let ok = (weighted-adjoint-run-accepted _ _ _ _ _ _ _ _ _ _ _).0 (sym (rw c.of-lengths.ensures at c.check_weighted_adjoint_run-checked.ensures) ∙ c.in-Ok.is) in
    let lengths : RunLengths run a.trajectory.n =
    record { of-signal = ok.signals.signal-length; of_output = ok.signals.output-length; within = omega arith } in
    let plain = steps-plain t a.weights.first.now a.weights.second.now (adjoint_course a.tau a.steps) adjoint c.binary64_values.ensures
    c.binary64_values-2.ensures c.binary64_values-3.ensures c.binary64_values-4.ensures (λ s. subst T (sym c.well_formed.1.0.1) tt) in
    run-copied run (rw c.of-lengths.ensures at c.check_weighted_adjoint_run-checked.ensures) c.in-Ok.is lengths plain
    (adjoint-none a.steps c.if-no_steps.true)
    (c.store.ensures
    ∙ ap (λ (n : ℕ). part 0 n a.src.now) (ok.signals.output-length ∙ sym ok.signals.signal-length)
    ∙ part-whole a.src.now)

pub overflow_mul-need : goal.overflow_mul-need
overflow_mul-need c =
    let a = c.args in
    let ok = (weighted-adjoint-run-accepted _ _ _ _ _ _ _ _ _ _ _).0 (sym (rw c.of-lengths.ensures at c.check_weighted_adjoint_run-checked.ensures) ∙ c.in-Ok.is) in
    omega (arith, ok.along.accepted.pattern.rows.few-rows, ok.along.accepted.pattern.rows.few-entries)

pub overflow_add-need : goal.overflow_add-need
overflow_add-need c =
    let a = c.args in
    let ok = (weighted-adjoint-run-accepted _ _ _ _ _ _ _ _ _ _ _).0 (sym (rw c.of-lengths.ensures at c.check_weighted_adjoint_run-checked.ensures) ∙ c.in-Ok.is) in
    omega (arith, ok.along.accepted.pattern.rows.few-rows, ok.along.accepted.pattern.rows.few-entries)

pub load-requires : goal.load-requires
load-requires c =
    let a = c.args in
    let ok = (weighted-adjoint-run-accepted _ _ _ _ _ _ _ _ _ _ _).0 (sym (rw c.of-lengths.ensures at c.check_weighted_adjoint_run-checked.ensures) ∙ c.in-Ok.is) in
    let some : 0 < a.steps = omega arith in
    omega (arith, ok.signals.signal-length, ok.room some)

pub invariant_of-along : goal.invariant_of-along
invariant_of-along c =
    let a = c.args in
    let ok = (weighted-adjoint-run-accepted _ _ _ _ _ _ _ _ _ _ _).0 (sym (rw c.of-lengths.ensures at c.check_weighted_adjoint_run-checked.ensures) ∙ c.in-Ok.is) in
    let some : 0 < a.steps = omega arith in
    record { accepted = ok.along; weights_len = ok.weights some }

pub run_steps-taken-requires : goal.run_steps-taken-requires
run_steps-taken-requires c =
    let a = c.args in
    let ok = (weighted-adjoint-run-accepted _ _ _ _ _ _ _ _ _ _ _).0 (sym (rw c.of-lengths.ensures at c.check_weighted_adjoint_run-checked.ensures) ∙ c.in-Ok.is) in
    let some : 0 < a.steps = omega arith in
    (some, omega (arith, ok.room some, c.load.auto.work))

pub finish_run-requires : goal.finish_run-requires
finish_run-requires c =
    let a = c.args in
    let ok = (weighted-adjoint-run-accepted _ _ _ _ _ _ _ _ _ _ _).0 (sym (rw c.of-lengths.ensures at c.check_weighted_adjoint_run-checked.ensures) ∙ c.in-Ok.is) in
    let some : 0 < a.steps = omega arith in (
      omega (arith, ok.room some, c.load.auto.work, c.run_steps-taken.ensures.length-kept),
      omega (arith, ok.signals.output-length, ok.room some, c.load.auto.work, c.run_steps-taken.ensures.length-kept),
    )

pub returns : goal.returns
returns c =
    let a = c.args in
    let t = trajectory_of a.trajectory in
    let run = weighted_adjoint_run t a.tau a.steps a.bound.rho_bar_max a.weights.a_sup_max a.bound.convergence_radius_check a.weights.first.now a.weights.second.now
    a.src.now a.dst.now a.work.now in
    let ok = (weighted-adjoint-run-accepted _ _ _ _ _ _ _ _ _ _ _).0 (sym (rw c.of-lengths.ensures at c.check_weighted_adjoint_run-checked.ensures) ∙ c.in-Ok.is) in
    let some : 0 < a.steps = omega arith in
    let lengths : RunLengths run a.trajectory.n =
    record { of-signal = ok.signals.signal-length; of_output = ok.signals.output-length; within = omega arith } in
    let plain = steps-plain t a.weights.first.now a.weights.second.now (adjoint_course a.tau a.steps) adjoint c.binary64_values.ensures
    c.binary64_values-2.ensures c.binary64_values-3.ensures c.binary64_values-4.ensures (λ s. subst T (sym c.well_formed.1.0.1) tt) in
    run-finished run (rw c.of-lengths.ensures at c.check_weighted_adjoint_run-checked.ensures) c.in-Ok.is lengths plain (adjoint-some a.steps some)
    (ok.room some) c.load.ensures c.run_steps-taken.ensures c.finish_run.ensures
