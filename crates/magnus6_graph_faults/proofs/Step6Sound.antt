-- What the checks of a step of order 6 accept: exactly an `AcceptedStep6`. The kernels use this, and not the checks'
-- definitions. Assumes nothing.
use mathlib.Core.Path.{◌≡◌, sym, ◌∙◌}
use mathlib.Core.Logic.{◌↔◌}
use mathlib.Core.Bool.{Bool}
use Prim.Native.Nat.{ℕ, ◌*◌, ◌≤◌}
use lib.Ieee.{Float}
use Rattle.error.specs.Answer.{Checked}
use Rattle.error.specs.Answer.{Accepted}
use Rattle.error.proofs.Checks.{length-accepted}
use Rattle.graph_checks.specs.Pattern.{Laplacian}
use Rattle.magnus_graph_faults.specs.StepChecks.{Sample}
use Rattle.magnus_graph_faults.proofs.StepSound.{sample-accepted, bound-accepted, room-accepted, samples-accepted}
use Rattle.magnus_graph_faults.proofs.StepSound.{step-length-accepted, lengths-accepted, inputs-of-groups, ◌then◌}
use Rattle.magnus6_graph_faults.specs.Step6Checks.{samples6_fault, lengths6_fault, step6_fault}
use Rattle.magnus6_graph_faults.specs.AcceptedStep6.{AcceptedStep6}

pub samples6-accepted : (first second third : Sample)
    → (samples6_fault first second third ≡ Accepted)
    ↔ ((Laplacian first.nodes first.starts first.cols first.vals
    × Laplacian second.nodes second.starts second.cols second.vals)
    × Laplacian third.nodes third.starts third.cols third.vals)
unfolding samples6_fault
samples6-accepted first second third = samples-accepted first second then sample-accepted third

pub lengths6-accepted : (n second third signal output : ℕ)
    → (lengths6_fault n second third signal output ≡ Accepted)
    ↔ ((second ≡ n) × ((third ≡ n) × ((signal ≡ n) × (output ≡ n))))
unfolding lengths6_fault
lengths6-accepted n second third signal output = length-accepted second n then lengths-accepted n third signal output

pub few-nodes6 : {check : Checked} (first second third : Sample)
    → check ≡ samples6_fault first second third
    → check ≡ Accepted
    → first.nodes ≤ 4096
few-nodes6 first second third e p =
    ((samples6-accepted first second third).0 (sym e ∙ p)).0.0.pattern.rows.few-rows

module _ (first second third : Sample) (τ bound : Float) (checked : Bool) (signal output work : ℕ) where
  pub step6-accepted :
      (step6_fault first second third τ bound checked signal output work ≡ Accepted)
      ↔ AcceptedStep6 first second third τ bound checked signal output work
  unfolding step6_fault
  step6-accepted =
      let n = first.nodes in
      let chain =
      samples6-accepted first second third
      then bound-accepted bound
      then step-length-accepted τ bound checked
      then lengths6-accepted n second.nodes third.nodes signal output
      then room-accepted work (22 * n) in
      let common = inputs-of-groups first second τ bound checked signal output work (22 * n) in (
        λ h.
            let samples = chain.0 h in
            let spectral = samples.1 in
            let step = spectral.1 in
            let lengths = step.1 in
            let same = lengths.0.1.0 in
            record {
              inputs = common.0 (samples.0.0, step.0, (lengths.0.0, lengths.0.1.1), lengths.1);
              spectral-bound = spectral.0;
              laplacian3 = rw same at samples.0.1;
              same-nodes3 = same;
            },
        λ a.
            let g = common.1 a.inputs in
            chain.1 (
              (g.0, rw a.same-nodes3 a.laplacian3),
              (a.spectral-bound, (g.1, ((g.2.0, (a.same-nodes3, g.2.1)), g.3))),
            ),
      )
