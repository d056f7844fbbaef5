-- What the checks of the adjoint runs accept: each row exactly what it should, and so the whole checks exactly an `AcceptedAdjointRun` and
-- an `AcceptedWeightedAdjointRun`. The runs use these, and not the checks' definitions. Assumes nothing.
use mathlib.Core.Path.{◌≡◌, refl}
use mathlib.Core.Logic.{◌↔◌}
use mathlib.Core.Bool.{Bool, true, false, cond}
use Prim.Native.Nat.{ℕ, ◌≤◌, ◌<◌}
use native.Mathlib.Omega.{arith}
use lib.Dec.{eqb}
use lib.Ieee.{Float}
use borrow.Author.Tests.{eqb-true, eqb-false, ltb-false, le-ltb}
use Rattle.error.specs.Answer.{Checked}
use Rattle.error.specs.Answer.{Accepted}
use Rattle.error.proofs.Checks.{refuse_if-accepted}
use Rattle.graph_traj_parts.specs.Trajectory.{Trajectory}
use Rattle.graph_traj_parts.proofs.TrajectorySound.{adjoint-trajectory-accepted}
use Rattle.magnus_graph_faults.specs.AcceptedStep.{Positive}
use Rattle.magnus_graph_faults.proofs.StepSound.{bound-accepted, room-accepted, step-length-accepted, ◌then◌}
use Rattle.varcoef_magnus_graph_faults.specs.WeightedStepChecks.{weighted_bound}
use Rattle.varcoef_magnus_graph_faults.proofs.WeightedStepSound.{weights-length-accepted, weighted-bounds-accepted}
use Rattle.graph_traj_faults.specs.RunChecks.{run_need}
use Rattle.graph_traj_faults.specs.AcceptedRun.{Signals}
use Rattle.graph_traj_faults.proofs.RunSound.{signals-accepted, run-lengths-accepted}
use Rattle.graph_traj_adjoint_faults.specs.AdjointRunChecks.{adjoint_step_count_fault, weighted_run_need, weighted_run_lengths_fault}
use Rattle.graph_traj_adjoint_faults.specs.AdjointRunChecks.{adjoint_steps_fault, adjoint_run_fault, weighted_adjoint_run_fault}
use Rattle.graph_traj_adjoint_faults.specs.AcceptedAdjointRun.{Steps, AcceptedAdjointRun, AcceptedWeightedAdjointRun}

pub adjoint-step-count-accepted : (steps : ℕ) → (adjoint_step_count_fault steps ≡ Accepted) ↔ (steps ≤ 65535)
unfolding adjoint_step_count_fault
adjoint-step-count-accepted steps = (
  λ h. ltb-false 65535 steps ((refuse_if-accepted _ _).0 h),
  λ l. (refuse_if-accepted _ _).1 (le-ltb 65535 steps l),
)

pub weighted-run-lengths-accepted : (n signal output starts ends work need : ℕ)
    → (weighted_run_lengths_fault n signal output starts ends work need ≡ Accepted)
    ↔ (Signals n signal output × (((starts ≡ n) × (ends ≡ n)) × (need ≤ work)))
unfolding weighted_run_lengths_fault
weighted-run-lengths-accepted n signal output starts ends work need =
    signals-accepted n signal output then weights-length-accepted n starts ends then room-accepted work need

pub adjoint-steps-accepted : (steps : ℕ) (τ bound : Float) (checked : Bool)
    → (adjoint_steps_fault steps τ bound checked ≡ Accepted) ↔ Steps τ steps bound checked
unfolding adjoint_steps_fault
adjoint-steps-accepted steps τ bound checked =
    let chain = adjoint-step-count-accepted steps then step-length-accepted τ bound checked in (
      λ h.
          let g = chain.0 h in
          record { few-steps = g.0; step-length = g.1.0; radius = g.1.1 },
      λ s. chain.1 (s.few-steps, (s.step-length, s.radius)),
    )

-- with no steps and with steps: what the two have in common is P, what the second has besides is Q
by-steps : (steps : ℕ) {none some : Checked} {P Q : Type 0}
    → ((none ≡ Accepted) ↔ P)
    → ((some ≡ Accepted) ↔ (P × Q))
    → (cond (eqb steps 0) none some ≡ Accepted) ↔ (P × (0 < steps → Q))
by-steps steps {none} {some} {P} {Q} p q = go (eqb steps 0) refl
  where
    go : (b : Bool) → eqb steps 0 ≡ b → (cond b none some ≡ Accepted) ↔ (P × (0 < steps → Q))
    go true e =
        let z = eqb-true steps 0 e in
        (λ h. (p.0 h, λ l. absurd (omega arith)), λ g. p.1 g.0)
    go false e =
        let n = eqb-false steps 0 e in (
          λ h.
              let g = q.0 h in
              (g.0, λ l. g.1),
          λ g. q.1 (g.0, g.1 (omega arith)),
        )

-- the steps are checked before the lengths, but the lengths of signal and output are what both cases have in common
exchanged : {c : Checked} {P Q R : Type 0} → ((c ≡ Accepted) ↔ (P × (Q × R))) → (c ≡ Accepted) ↔ (Q × (P × R))
exchanged h = (
  λ p.
      let g = h.0 p in
      (g.1.0, (g.0, g.1.1)),
  λ g. h.1 (g.1.0, (g.0, g.1.1)),
)

module _ (t : Trajectory) (τ : Float) (steps : ℕ) (bound : Float) (checked : Bool) (signal output work : ℕ) where
  pub adjoint-run-accepted :
      (adjoint_run_fault t τ steps bound checked signal output work ≡ Accepted)
      ↔ AcceptedAdjointRun t τ steps bound checked signal output work
  unfolding adjoint_run_fault
  adjoint-run-accepted =
      let n = t.nodes in
      let chain =
      adjoint-trajectory-accepted t
      then bound-accepted bound
      then by-steps steps (signals-accepted n signal output)
      (exchanged
      (adjoint-steps-accepted steps τ bound checked then run-lengths-accepted n signal output work (run_need t))) in (
        λ h.
            let along = chain.0 h in
            let spectral = along.1 in
            let rest = spectral.1 in
            record {
              along = along.0;
              spectral-bound = spectral.0;
              signals = rest.0;
              stepping = λ l. (rest.1 l).0;
              room = λ l. (rest.1 l).1;
            },
        λ a. chain.1 (a.along, (a.spectral-bound, (a.signals, λ l. (a.stepping l, a.room l)))),
      )

module _ (t : Trajectory) (τ : Float) (steps : ℕ) (bound root_bound : Float) (checked : Bool) (signal output starts ends work : ℕ) where
  pub weighted-adjoint-run-accepted :
      (weighted_adjoint_run_fault t τ steps bound root_bound checked signal output starts ends work ≡ Accepted)
      ↔ AcceptedWeightedAdjointRun t τ steps bound root_bound checked signal output starts ends work
  unfolding weighted_adjoint_run_fault
  weighted-adjoint-run-accepted =
      let n = t.nodes in
      let chain =
      adjoint-trajectory-accepted t
      then weighted-bounds-accepted bound root_bound n
      then by-steps steps (signals-accepted n signal output)
      (exchanged
      (adjoint-steps-accepted steps τ (weighted_bound bound root_bound) checked
      then weighted-run-lengths-accepted n signal output starts ends work (weighted_run_need t))) in (
        λ h.
            let along = chain.0 h in
            let bounds = along.1 in
            let rest = bounds.1 in
            record {
              along = along.0;
              spectral-bound = bounds.0.0;
              root-bound = bounds.0.1.0;
              some-nodes = bounds.0.1.1;
              signals = rest.0;
              stepping = λ l. (rest.1 l).0;
              weights = λ l. (rest.1 l).1.0;
              room = λ l. (rest.1 l).1.1;
            },
        λ a.
            let bounds : Positive bound × (Positive root_bound × (0 < n)) = (a.spectral-bound, (a.root-bound, a.some-nodes)) in
            chain.1 (a.along, (bounds, (a.signals, λ l. (a.stepping l, (a.weights l, a.room l))))),
      )
