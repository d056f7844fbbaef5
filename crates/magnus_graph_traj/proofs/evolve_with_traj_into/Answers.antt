-- `evolve_with_traj_into` meets its contract: it makes the checks of `run_fault`; where they accept, the signal is loaded into the work
-- slice, the steps are taken there, what is held after the last is stored, and the needed part of the work slice is cleared. Demand 3
-- follows from the definitions. Assumes nothing.
use Rattle.std.proofs.Common.{ℕ, Bool, List, arith}
use lib.Ieee.{Float}
use Rattle.graph_traj_parts.specs.declared.Trajectory.{Trajectory as LentTrajectory}
use Rattle.graph_traj_parts.specs.Trajectory.{trajectory_of}
use Rattle.magnus_graph_traj_outcome.proofs.RunOutcome.{run-refused, run-finished}
use Rattle.magnus_graph_traj_outcome.proofs.AcceptedRuns.{Lent, forward_of, forward-accepted, forward-lengths, forward-some, forward-plain}
use Rattle.magnus_graph_traj.proofs.evolve_with_traj_into.Goals as goal

-- what is lent
abbrev lent : LentTrajectory → ℕ → Float → Bool → List Float → List Float → List Float → Lent
lent t steps bound checked signal output work = record {
  along = trajectory_of t;
  steps = steps;
  bound = bound;
  checked = checked;
  signal = signal;
  output = output;
  work = work;
}

pub returns-in_default : goal.returns-in_default
returns-in_default c =
    let a = c.args in
    let given = lent a.trajectory a.steps a.bound.rho_bar_max a.bound.convergence_radius_check a.src.now a.dst.now a.work.now in
    run-refused (forward_of given) (rw c.of-lengths.ensures at c.check_run-checked.ensures) c.in_default.is

pub overflow_mul-need : goal.overflow_mul-need
overflow_mul-need c =
    let a = c.args in
    let given = lent a.trajectory a.steps a.bound.rho_bar_max a.bound.convergence_radius_check a.src.now a.dst.now a.work.now in
    let ok = forward-accepted given (rw c.of-lengths.ensures at c.check_run-checked.ensures) c.in-Ok.is in
    omega (arith, ok.along.pattern.rows.few-rows)

pub overflow_add-need : goal.overflow_add-need
overflow_add-need c =
    let a = c.args in
    let given = lent a.trajectory a.steps a.bound.rho_bar_max a.bound.convergence_radius_check a.src.now a.dst.now a.work.now in
    let ok = forward-accepted given (rw c.of-lengths.ensures at c.check_run-checked.ensures) c.in-Ok.is in
    omega (arith, ok.along.pattern.rows.few-rows, ok.along.pattern.rows.few-entries)

pub load-requires : goal.load-requires
load-requires c =
    let a = c.args in
    let given = lent a.trajectory a.steps a.bound.rho_bar_max a.bound.convergence_radius_check a.src.now a.dst.now a.work.now in
    let ok = forward-accepted given (rw c.of-lengths.ensures at c.check_run-checked.ensures) c.in-Ok.is in
    omega (arith, ok.signals.signal-length, ok.room)

pub invariant_of-along : goal.invariant_of-along
invariant_of-along c =
    let a = c.args in
    let given = lent a.trajectory a.steps a.bound.rho_bar_max a.bound.convergence_radius_check a.src.now a.dst.now a.work.now in
    let ok = forward-accepted given (rw c.of-lengths.ensures at c.check_run-checked.ensures) c.in-Ok.is in
    record { accepted = ok.along }

pub run_all_segments-taken-requires : goal.run_all_segments-taken-requires
run_all_segments-taken-requires c =
    let a = c.args in
    let given = lent a.trajectory a.steps a.bound.rho_bar_max a.bound.convergence_radius_check a.src.now a.dst.now a.work.now in
    let ok = forward-accepted given (rw c.of-lengths.ensures at c.check_run-checked.ensures) c.in-Ok.is in
    omega (arith, ok.room, c.load.auto.work)

pub finish_run-requires : goal.finish_run-requires
finish_run-requires c =
    let a = c.args in
    let given = lent a.trajectory a.steps a.bound.rho_bar_max a.bound.convergence_radius_check a.src.now a.dst.now a.work.now in
    let ok = forward-accepted given (rw c.of-lengths.ensures at c.check_run-checked.ensures) c.in-Ok.is in (
      omega (arith, ok.room, c.load.auto.work, c.run_all_segments-taken.ensures.length-kept),
      omega (arith, ok.signals.output-length, ok.room, c.load.auto.work, c.run_all_segments-taken.ensures.length-kept),
    )

pub returns : goal.returns
returns c =
    let a = c.args in
    let given = lent a.trajectory a.steps a.bound.rho_bar_max a.bound.convergence_radius_check a.src.now a.dst.now a.work.now in
    let check = rw c.of-lengths.ensures at c.check_run-checked.ensures in
    let yes = c.in-Ok.is in
    run-finished (forward_of given) check yes (forward-lengths given check yes) (forward-plain given c.binary64_values.ensures c.binary64_values-2.ensures)
    (forward-some given check yes) (forward-accepted given check yes).room c.load.ensures c.run_all_segments-taken.ensures
    c.finish_run.ensures
