-- What the checks of the forward run accept: each row exactly what it should, and so the whole check exactly an `AcceptedRun`. The run
-- uses this, and not the checks' definitions. Assumes nothing.
use mathlib.Core.Path.{◌≡◌}
use mathlib.Core.Logic.{◌↔◌}
use mathlib.Core.Bool.{Bool}
use mathlib.Core.List.{List}
use Prim.Native.Nat.{ℕ, ◌≤◌, ◌<◌}
use lib.Ieee.{Float}
use Rattle.error.specs.Answer.{Accepted}
use Rattle.error.proofs.Checks.{length-accepted}
use Rattle.graph_traj_breakpoints.proofs.LookupSound.{count-accepted}
use Rattle.graph_traj_parts.specs.Trajectory.{Trajectory}
use Rattle.graph_traj_parts.proofs.TrajectorySound.{first-breakpoint-accepted, trajectory-accepted}
use Rattle.magnus_graph_faults.specs.AcceptedStep.{WithinRadius}
use Rattle.magnus_graph_faults.proofs.StepSound.{bound-accepted, radius-accepted, room-accepted, ◌then◌}
use Rattle.graph_traj_faults.specs.RunChecks.{step_count_fault, tau_of, segments_radius_fault, run_need, signals_fault}
use Rattle.graph_traj_faults.specs.RunChecks.{run_lengths_fault, run_fault}
use Rattle.graph_traj_faults.specs.AcceptedRun.{Signals, AcceptedRun}
use Rattle.graph_traj_faults.proofs.Each.{each-accepted}

pub step-count-accepted : (steps : ℕ) → (step_count_fault steps ≡ Accepted) ↔ ((0 < steps) × (steps ≤ 65535))
unfolding step_count_fault
step-count-accepted steps = count-accepted steps _

pub segments-radius-accepted : (checked : Bool) (bound : Float) (steps : ℕ) (breakpoints : List Float) (segments : ℕ)
    → (segments_radius_fault checked bound steps breakpoints segments ≡ Accepted)
    ↔ ((i : ℕ) → i < segments → WithinRadius checked (tau_of breakpoints steps i) bound)
unfolding segments_radius_fault
segments-radius-accepted checked bound steps breakpoints segments = (
  λ h i l. (radius-accepted checked (tau_of breakpoints steps i) bound).0 ((each-accepted _ segments).0 h i l),
  λ h. (each-accepted _ segments).1 (λ i l. (radius-accepted checked (tau_of breakpoints steps i) bound).1 (h i l)),
)

pub signals-accepted : (n signal output : ℕ) → (signals_fault n signal output ≡ Accepted) ↔ Signals n signal output
unfolding signals_fault
signals-accepted n signal output =
    let chain = length-accepted signal n then length-accepted output n in (
      λ h.
          let g = chain.0 h in
          record { signal-length = g.0; output-length = g.1 },
      λ s. chain.1 (s.signal-length, s.output-length),
    )

pub run-lengths-accepted : (n signal output work need : ℕ)
    → (run_lengths_fault n signal output work need ≡ Accepted) ↔ (Signals n signal output × (need ≤ work))
unfolding run_lengths_fault
run-lengths-accepted n signal output work need = signals-accepted n signal output then room-accepted work need

module _ (t : Trajectory) (steps : ℕ) (bound : Float) (checked : Bool) (signal output work : ℕ) where
  pub run-accepted :
      (run_fault t steps bound checked signal output work ≡ Accepted)
      ↔ AcceptedRun t steps bound checked signal output work
  unfolding run_fault
  run-accepted =
      let chain =
      trajectory-accepted t
      then bound-accepted bound
      then step-count-accepted steps
      then first-breakpoint-accepted t.breakpoints
      then run-lengths-accepted t.nodes signal output work (run_need t)
      then segments-radius-accepted checked bound steps t.breakpoints t.segments in (
        λ h.
            let along = chain.0 h in
            let spectral = along.1 in
            let count = spectral.1 in
            let first = count.1 in
            let lengths = first.1 in
            record {
              along = along.0;
              spectral-bound = spectral.0;
              some-steps = count.0.0;
              few-steps = count.0.1;
              from_zero = first.0;
              signals = lengths.0.0;
              room = lengths.0.1;
              radius = lengths.1;
            },
        λ a.
            let lengths : Signals t.nodes signal output × (run_need t ≤ work) = (a.signals, a.room) in
            let count : (0 < steps) × (steps ≤ 65535) = (a.some-steps, a.few-steps) in
            chain.1 (a.along, (a.spectral-bound, (count, (a.from_zero, (lengths, a.radius))))),
      )
