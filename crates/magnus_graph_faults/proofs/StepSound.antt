-- What the checks of a step accept: each row exactly what it should, and so the whole check of an unweighted step exactly an
-- `AcceptedStep`. The kernels use these, and not the checks' definitions. Assumes nothing.
use mathlib.Core.Path.{◌≡◌, refl, sym, ◌∙◌}
use mathlib.Core.Logic.{◌↔◌}
use mathlib.Core.Bool.{Bool, true, false, not, ◌&&◌, ◌||◌, true≢false, false≢true}
use Prim.Native.Nat.{ℕ, ◌*◌, ◌≤◌}
use native.Mathlib.Omega.{arith}
use lib.Ieee.{Float, of_bits}
use lib.Ieee.Scale.{finite}
use borrow.Author.Tests.{ltb-false, le-ltb}
use Rattle.error.specs.Checks.{next}
use Rattle.error.specs.declared.Refusal.{Refusal}
use Rattle.error.specs.Answer.{Checked}
use Rattle.error.specs.Answer.{Accepted, Refused}
use Rattle.error.proofs.Checks.{refuse_if-accepted, next-accepted, length-accepted}
use Rattle.graph_checks.specs.Pattern.{Laplacian}
use Rattle.graph_checks.proofs.Sound.{csr-accepted}
use Rattle.magnus_graph_faults.specs.StepChecks.{Sample, bound_fault, tau_fault, radius_fault, room_fault, sample_fault}
use Rattle.magnus_graph_faults.specs.StepChecks.{samples_fault, step_length_fault, lengths_fault, step_fault}
use Rattle.magnus_graph_faults.specs.AcceptedStep.{Positive, NotNegative, WithinRadius, StepInputs, AcceptedStep}
use Rattle.magnus_graph_faults.proofs.Positive.{positive-accepted}

-- ---- the rows of the table

pub sample-accepted : (s : Sample)
    → (sample_fault s ≡ Accepted) ↔ Laplacian s.nodes s.starts s.cols s.vals
unfolding sample_fault
sample-accepted s = csr-accepted _ _ _ _

pub bound-accepted : (bound : Float) → (bound_fault bound ≡ Accepted) ↔ Positive bound
unfolding bound_fault
bound-accepted bound = (
  λ h. (positive-accepted bound).0 ((refuse_if-accepted _ _).0 h),
  λ p. (refuse_if-accepted _ _).1 ((positive-accepted bound).1 p),
)

pub tau-accepted : (τ : Float) → (tau_fault τ ≡ Accepted) ↔ NotNegative τ
unfolding tau_fault of_bits
tau-accepted τ = (
  λ h.
      let g = (neither (finite τ) _).0 ((refuse_if-accepted _ _).0 h) in
      record { is_finite = g.0; not-below-zero = g.1 },
  λ p. (refuse_if-accepted _ _).1 ((neither (finite τ) _).1 (p.is_finite, p.not-below-zero)),
)
  where
    neither : (a b : Bool) → ((not a || b) ≡ false) ↔ ((a ≡ true) × (b ≡ false))
    neither true b = (λ h. (refl, h), λ p. p.1)
    neither false b = (λ h. absurd (true≢false h), λ p. absurd (false≢true p.0))

pub radius-accepted : (checked : Bool) (τ bound : Float)
    → (radius_fault checked τ bound ≡ Accepted) ↔ WithinRadius checked τ bound
unfolding radius_fault
radius-accepted checked τ bound = (
  λ h. record { below-half-pi = (where-on checked _).0 ((refuse_if-accepted _ _).0 h) },
  λ r. (refuse_if-accepted _ _).1 ((where-on checked _).1 r.below-half-pi),
)
  where
    where-on : (a b : Bool) → ((a && b) ≡ false) ↔ (a ≡ true → b ≡ false)
    where-on true b = (λ h p. h, λ g. g refl)
    where-on false b = (λ h p. absurd (false≢true p), λ g. refl)

pub room-accepted : (work need : ℕ) → (room_fault work need ≡ Accepted) ↔ (need ≤ work)
unfolding room_fault
room-accepted work need = (
  λ h. ltb-false work need ((refuse_if-accepted _ _).0 h),
  λ l. (refuse_if-accepted _ _).1 (le-ltb work need l),
)

-- ---- the groups of rows

infixr 20 ◌then◌
-- a chain accepts exactly what its checks accept
pub ◌then◌ : {a b : Checked} {P Q : Type 0}
    → ((a ≡ Accepted) ↔ P)
    → ((b ≡ Accepted) ↔ Q)
    → (next a b ≡ Accepted) ↔ (P × Q)
◌then◌ p q = (
  λ h.
      let g = (next-accepted _ _).0 h in
      (p.0 g.0, q.0 g.1),
  λ h. (next-accepted _ _).1 (p.1 h.0, q.1 h.1),
)

pub samples-accepted : (first second : Sample)
    → (samples_fault first second ≡ Accepted)
    ↔ (Laplacian first.nodes first.starts first.cols first.vals
    × Laplacian second.nodes second.starts second.cols second.vals)
unfolding samples_fault
samples-accepted first second = sample-accepted first then sample-accepted second

pub step-length-accepted : (τ bound : Float) (checked : Bool)
    → (step_length_fault τ bound checked ≡ Accepted) ↔ (NotNegative τ × WithinRadius checked τ bound)
unfolding step_length_fault
step-length-accepted τ bound checked = tau-accepted τ then radius-accepted checked τ bound

pub lengths-accepted : (n second signal output : ℕ)
    → (lengths_fault n second signal output ≡ Accepted) ↔ ((second ≡ n) × ((signal ≡ n) × (output ≡ n)))
unfolding lengths_fault
lengths-accepted n second signal output =
    length-accepted second n then length-accepted signal n then length-accepted output n

-- ---- the whole check

-- a step that was refused is not accepted
pub refused-not-accepted : {check fault : Checked} {r : Refusal}
    → check ≡ fault
    → check ≡ Refused r
    → fault ≡ Accepted
    → ⊥
refused-not-accepted made p a = let z : ◌≡◌ {A = ℕ} 0 1 = cc in omega arith

-- the samples were checked, and accepted: there are at most 4,096 nodes
pub few-nodes : {check : Checked} (first second : Sample)
    → check ≡ samples_fault first second
    → check ≡ Accepted
    → first.nodes ≤ 4096
few-nodes first second e p = ((samples-accepted first second).0 (sym e ∙ p)).0.pattern.rows.few-rows

-- what the kinds of step have in common, from what the groups of rows accept
module _ (first second : Sample) (τ bound : Float) (checked : Bool) (signal output work need : ℕ) where
  abbrev pub Groups : Type 0
  Groups =
      (Laplacian first.nodes first.starts first.cols first.vals
      × Laplacian second.nodes second.starts second.cols second.vals)
      × (NotNegative τ × WithinRadius checked τ bound)
      × ((second.nodes ≡ first.nodes) × ((signal ≡ first.nodes) × (output ≡ first.nodes)))
      × (need ≤ work)

  pub inputs-of-groups : Groups ↔ StepInputs first second τ bound checked signal output work need
  inputs-of-groups = (says, holds)
    where
      says : Groups → StepInputs first second τ bound checked signal output work need
      says (laplacians, step, lengths, room) =
          let same : second.nodes ≡ first.nodes = lengths.0 in
          record {
            laplacian1 = laplacians.0;
            laplacian2 = rw same at laplacians.1;
            same_nodes = same;
            step-length = step.0;
            radius = step.1;
            signal-length = lengths.1.0;
            output-length = lengths.1.1;
            room = room;
          }

      holds : StepInputs first second τ bound checked signal output work need → Groups
      holds s = (
        (s.laplacian1, rw s.same_nodes s.laplacian2),
        (s.step-length, s.radius),
        (s.same_nodes, (s.signal-length, s.output-length)),
        s.room,
      )

module _ (first second : Sample) (τ bound : Float) (checked : Bool) (signal output work : ℕ) where
  pub step-accepted :
      (step_fault first second τ bound checked signal output work ≡ Accepted)
      ↔ AcceptedStep first second τ bound checked signal output work
  unfolding step_fault
  step-accepted =
      let chain =
      samples-accepted first second
      then bound-accepted bound
      then step-length-accepted τ bound checked
      then lengths-accepted first.nodes second.nodes signal output
      then room-accepted work (5 * first.nodes) in
      let common = inputs-of-groups first second τ bound checked signal output work (5 * first.nodes) in (
        λ h.
            let samples = chain.0 h in
            let spectral = samples.1 in
            let step = spectral.1 in
            let lengths = step.1 in
            record {
              inputs = common.0 (samples.0, step.0, lengths.0, lengths.1);
              spectral-bound = spectral.0;
            },
        λ a.
            let g = common.1 a.inputs in
            chain.1 (g.0, (a.spectral-bound, (g.1, (g.2, g.3)))),
      )
