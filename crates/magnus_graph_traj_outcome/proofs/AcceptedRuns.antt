-- What the two calls know once their checks have accepted: what the loops ask, and what the outcome asks. Assumes nothing.
use mathlib.Core.Path.{◌≡◌, sym, ◌∙◌}
use mathlib.Core.Bool.{Bool, false}
use mathlib.Core.List.{List, [], ◌++◌}
use Prim.Native.Nat.{ℕ, zero, suc, ◌+◌, ◌<◌}
use native.Mathlib.Omega.{arith}
use lib.Dec.{T, eqb}
use lib.ListN.{length, length-append}
use lib.Ieee.{Float, binary64, fits}
use lib.Ieee.Fits.{div-fits}
use borrow.Author.Tests.{ne_eqb}
use Rattle.arithmetic.specs.Vector.{tabulate}
use Rattle.error.specs.Answer.{Checked}
use Rattle.error.specs.Answer.{Accepted}
use Rattle.magnus_plain_sum.specs.Agree.{OfFormat}
use Rattle.magnus_graph_outcome.specs.StepOutcome.{forward, adjoint}
use Rattle.graph_traj_segment.specs.Times.{segment_tau}
use Rattle.graph_traj_parts.specs.Trajectory.{Trajectory}
use Rattle.graph_traj_faults.specs.AcceptedRun.{AcceptedRun}
use Rattle.graph_traj_adjoint_faults.specs.AcceptedAdjointRun.{AcceptedAdjointRun}
use Rattle.graph_traj_faults.proofs.RunSound.{run-accepted}
use Rattle.graph_traj_adjoint_faults.proofs.AdjointRunSound.{adjoint-run-accepted}
use Rattle.magnus_graph_traj_steps.specs.RunSteps.{segment_steps, all_steps, forward_course, adjoint_course}
use Rattle.magnus_graph_traj_steps.proofs.Courses.{segment-count}
use Rattle.magnus_graph_traj_outcome.specs.RunOutcome.{Run, forward_run, adjoint_run}
use Rattle.magnus_graph_traj_outcome.proofs.RunOutcome.{StepsPlain, RunLengths}
use Rattle.magnus_graph_traj_outcome.proofs.StepPlain.{steps-plain}

-- ---- how many steps

-- a forward run has a step
some-forward : (steps segments : ℕ) → 0 < steps → 0 < segments → eqb (length (all_steps steps segments)) 0 ≡ false
unfolding all_steps
some-forward steps zero l k = absurd (omega arith)
some-forward steps (suc i) l k =
    let before = all_steps steps i in
    let count : length (before ++ segment_steps i steps) ≡ length before + length (segment_steps i steps) = length-append before _ in
    ne_eqb (length (before ++ segment_steps i steps)) 0 (λ e. omega (arith, e, count, segment-count i steps, l))

-- ---- what a call is lent

pub record Lent : Type 0 where
  pub along : Trajectory
  pub steps : ℕ
  pub bound : Float
  pub checked : Bool
  pub signal : List Float
  pub output : List Float
  pub work : List Float

-- the forward run, and the adjoint run with steps of length τ
abbrev pub forward_of : Lent → Run
forward_of a = forward_run a.along a.steps a.bound a.checked a.signal a.output a.work

abbrev pub adjoint_of : Float → Lent → Run
adjoint_of τ a = adjoint_run a.along τ a.steps a.bound a.checked a.signal a.output a.work

-- ---- the forward run

module _ (a : Lent) {check : Checked} (made : check ≡ (forward_of a).checks) (accepted : check ≡ Accepted) where
  pub forward-accepted :
      AcceptedRun a.along a.steps a.bound a.checked (length a.signal) (length a.output) (length a.work)
  forward-accepted = (run-accepted a.along a.steps a.bound a.checked _ _ _).0 (sym made ∙ accepted)

  pub forward-lengths : RunLengths (forward_of a) a.along.nodes
  forward-lengths =
      let s = forward-accepted.signals in
      record { of-signal = s.signal-length; of_output = s.output-length; within = omega arith }

  pub forward-some : eqb (length (all_steps a.steps a.along.segments)) 0 ≡ false
  forward-some =
      some-forward a.steps a.along.segments forward-accepted.some-steps forward-accepted.along.times.some-segments

pub forward-plain : (a : Lent) → OfFormat binary64 a.along.starts → OfFormat binary64 a.along.ends
    → StepsPlain (forward_of a).stepping
unfolding segment_tau
forward-plain a p q =
    steps-plain a.along (forward_course a.along.breakpoints a.along.segments a.steps) forward p q (λ s. div-fits binary64 _ _)

-- ---- the adjoint run

module _ (τ : Float) (a : Lent) {check : Checked} (made : check ≡ (adjoint_of τ a).checks) (accepted : check ≡ Accepted) where
  pub adjoint-accepted :
      AcceptedAdjointRun a.along τ a.steps a.bound a.checked (length a.signal) (length a.output) (length a.work)
  adjoint-accepted = (adjoint-run-accepted a.along τ a.steps a.bound a.checked _ _ _).0 (sym made ∙ accepted)

  pub adjoint-lengths : RunLengths (adjoint_of τ a) a.along.nodes
  adjoint-lengths =
      let s = adjoint-accepted.signals in
      record { of-signal = s.signal-length; of_output = s.output-length; within = omega arith }

-- with steps and with none
pub adjoint-some : (steps : ℕ) → 0 < steps → eqb (length (segment_steps 0 steps)) 0 ≡ false
adjoint-some steps l = ne_eqb (length (segment_steps 0 steps)) 0 (λ e. omega (arith, e, segment-count 0 steps, l))

pub adjoint-none : (steps : ℕ) → steps ≡ 0 → segment_steps 0 steps ≡ []
unfolding tabulate
adjoint-none steps e = rw e

pub adjoint-plain : (τ : Float) (a : Lent)
    → OfFormat binary64 a.along.starts
    → OfFormat binary64 a.along.ends
    → T (fits binary64 τ)
    → StepsPlain (adjoint_of τ a).stepping
adjoint-plain τ a p q f = steps-plain a.along (adjoint_course τ a.steps) adjoint p q (λ s. f)
