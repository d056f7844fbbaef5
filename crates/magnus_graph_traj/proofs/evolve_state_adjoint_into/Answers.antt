-- `evolve_state_adjoint_into` meets its contract: it makes the checks of `adjoint_run_fault`; where they accept and there are steps, the
-- signal is loaded into the work slice, the steps are taken there, what is held after the last is stored, and the needed part of the
-- work slice is cleared. With no steps the signal is copied. Demand 3 follows from the definitions. Assumes nothing.
use Rattle.std.proofs.Common.{ℕ, Bool, List, ◌<◌, sym, ap, ◌∙◌, arith}
use mathlib.Core.Path.{subst}
use lib.Dec.{T}
use lib.Ieee.{Float}
use Rattle.scratch.specs.Parts.{part}
use Rattle.scratch.proofs.Parts.{part-whole}
use Rattle.graph_traj_parts.specs.declared.Trajectory.{Trajectory as LentTrajectory}
use Rattle.graph_traj_parts.specs.Trajectory.{trajectory_of}
use Rattle.magnus_graph_traj_outcome.proofs.RunOutcome.{run-refused, run-copied, run-finished}
use Rattle.magnus_graph_traj_outcome.proofs.AcceptedRuns.{Lent, adjoint_of, adjoint-accepted, adjoint-lengths, adjoint-some}
use Rattle.magnus_graph_traj_outcome.proofs.AcceptedRuns.{adjoint-none, adjoint-plain}
use Rattle.magnus_graph_traj.proofs.evolve_state_adjoint_into.Goals as goal

-- what is lent
abbrev lent : LentTrajectory → ℕ → Float → Bool → List Float → List Float → List Float → Lent
lent t steps bound checked signal output work = record {
  along = trajectory_of t;
  steps = steps;
  bound = bound;
  checked = checked;
  signal = signal;
  output = output;
  work = work;
}

pub returns-in_default : goal.returns-in_default
returns-in_default c =
    let a = c.args in
    let given = lent a.trajectory a.steps a.bound.rho_bar_max a.bound.convergence_radius_check a.src.now a.dst.now a.work.now in
    run-refused (adjoint_of a.tau given) (rw c.of-lengths.ensures at c.check_adjoint_run-checked.ensures) c.in_default.is

pub store-requires : goal.store-requires
store-requires c =
    let a = c.args in
    let given = lent a.trajectory a.steps a.bound.rho_bar_max a.bound.convergence_radius_check a.src.now a.dst.now a.work.now in
    let ok = adjoint-accepted a.tau given (rw c.of-lengths.ensures at c.check_adjoint_run-checked.ensures) c.in-Ok.is in
    omega (arith, ok.signals.signal-length, ok.signals.output-length)

pub returns-then-no_steps : goal.returns-then-no_steps
returns-then-no_steps c =
    let a = c.args in
    let given = lent a.trajectory a.steps a.bound.rho_bar_max a.bound.convergence_radius_check a.src.now a.dst.now a.work.now in
    let check = rw c.of-lengths.ensures at c.check_adjoint_run-checked.ensures in
    let yes = c.in-Ok.is in
    let lengths = adjoint-lengths a.tau given check yes in
    run-copied (adjoint_of a.tau given) check yes lengths (adjoint-plain a.tau given c.binary64_values.ensures c.binary64_values-2.ensures (subst T (sym c.well_formed.1.0.1) tt))
    (adjoint-none a.steps c.if-no_steps.true)
    (c.store.ensures
    ∙ ap (λ (n : ℕ). part 0 n a.src.now) (lengths.of_output ∙ sym lengths.of-signal)
    ∙ part-whole a.src.now)

pub overflow_mul-need : goal.overflow_mul-need
overflow_mul-need c =
    let a = c.args in
    let given = lent a.trajectory a.steps a.bound.rho_bar_max a.bound.convergence_radius_check a.src.now a.dst.now a.work.now in
    let ok = adjoint-accepted a.tau given (rw c.of-lengths.ensures at c.check_adjoint_run-checked.ensures) c.in-Ok.is in
    omega (arith, ok.along.accepted.pattern.rows.few-rows)

pub overflow_add-need : goal.overflow_add-need
overflow_add-need c =
    let a = c.args in
    let given = lent a.trajectory a.steps a.bound.rho_bar_max a.bound.convergence_radius_check a.src.now a.dst.now a.work.now in
    let ok = adjoint-accepted a.tau given (rw c.of-lengths.ensures at c.check_adjoint_run-checked.ensures) c.in-Ok.is in
    omega (arith, ok.along.accepted.pattern.rows.few-rows, ok.along.accepted.pattern.rows.few-entries)

pub load-requires : goal.load-requires
load-requires c =
    let a = c.args in
    let given = lent a.trajectory a.steps a.bound.rho_bar_max a.bound.convergence_radius_check a.src.now a.dst.now a.work.now in
    let ok = adjoint-accepted a.tau given (rw c.of-lengths.ensures at c.check_adjoint_run-checked.ensures) c.in-Ok.is in
    let some : 0 < a.steps = omega arith in
    omega (arith, ok.signals.signal-length, ok.room some)

pub invariant_of-along : goal.invariant_of-along
invariant_of-along c =
    let a = c.args in
    let given = lent a.trajectory a.steps a.bound.rho_bar_max a.bound.convergence_radius_check a.src.now a.dst.now a.work.now in
    let ok = adjoint-accepted a.tau given (rw c.of-lengths.ensures at c.check_adjoint_run-checked.ensures) c.in-Ok.is in
    record { accepted = ok.along.accepted }

pub run_adjoint_steps-taken-requires : goal.run_adjoint_steps-taken-requires
run_adjoint_steps-taken-requires c =
    let a = c.args in
    let given = lent a.trajectory a.steps a.bound.rho_bar_max a.bound.convergence_radius_check a.src.now a.dst.now a.work.now in
    let ok = adjoint-accepted a.tau given (rw c.of-lengths.ensures at c.check_adjoint_run-checked.ensures) c.in-Ok.is in
    let some : 0 < a.steps = omega arith in
    omega (arith, ok.room some, c.load.auto.work)

pub finish_run-requires : goal.finish_run-requires
finish_run-requires c =
    let a = c.args in
    let given = lent a.trajectory a.steps a.bound.rho_bar_max a.bound.convergence_radius_check a.src.now a.dst.now a.work.now in
    let ok = adjoint-accepted a.tau given (rw c.of-lengths.ensures at c.check_adjoint_run-checked.ensures) c.in-Ok.is in
    let some : 0 < a.steps = omega arith in (
      omega (arith, ok.room some, c.load.auto.work, c.run_adjoint_steps-taken.ensures.length-kept),
      omega (arith, ok.signals.output-length, ok.room some, c.load.auto.work, c.run_adjoint_steps-taken.ensures.length-kept),
    )

pub returns : goal.returns
returns c =
    let a = c.args in
    let given = lent a.trajectory a.steps a.bound.rho_bar_max a.bound.convergence_radius_check a.src.now a.dst.now a.work.now in
    let some : 0 < a.steps = omega arith in
    let check = rw c.of-lengths.ensures at c.check_adjoint_run-checked.ensures in
    let yes = c.in-Ok.is in
    run-finished (adjoint_of a.tau given) check yes (adjoint-lengths a.tau given check yes)
    (adjoint-plain a.tau given c.binary64_values.ensures c.binary64_values-2.ensures (subst T (sym c.well_formed.1.0.1) tt))
    (adjoint-some a.steps some) ((adjoint-accepted a.tau given check yes).room some) c.load.ensures
    c.run_adjoint_steps-taken.ensures c.finish_run.ensures
