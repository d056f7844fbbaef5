-- What the checks of weights and of a weighted step accept: each row exactly what it should, and so the whole check exactly an
-- `AcceptedWeightedStep`. The kernels use these, and not the checks' definitions. Assumes nothing.
use mathlib.Core.Path.{◌≡◌, ap}
use mathlib.Core.Logic.{◌↔◌}
use mathlib.Core.Bool.{Bool, not, and-eq-true_iff}
use mathlib.Core.List.{List}
use Prim.Native.Nat.{ℕ, ◌*◌, ◌<◌}
use native.Mathlib.Omega.{arith}
use lib.ListN.{length, get_or}
use lib.Ieee.{Float, nan}
use borrow.Author.Tests.{eqb-true, eqb-false, eq-eqb, ne_eqb, not-false}
use Rattle.error.specs.Answer.{Accepted}
use Rattle.error.proofs.Checks.{refuse_if-accepted}
use Rattle.graph_checks.proofs.First.{refuse_first-accepted}
use Rattle.magnus_graph_faults.specs.StepChecks.{Sample}
use Rattle.magnus_graph_faults.specs.AcceptedStep.{Positive}
use Rattle.magnus_graph_faults.proofs.Positive.{positive-accepted}
use Rattle.magnus_graph_faults.proofs.StepSound.{bound-accepted, room-accepted, samples-accepted, step-length-accepted}
use Rattle.magnus_graph_faults.proofs.StepSound.{lengths-accepted, inputs-of-groups, ◌then◌}
use Rattle.varcoef_magnus_graph_faults.specs.WeightedStepChecks.{no_nodes_fault, weighted_bound, weights_length_fault}
use Rattle.varcoef_magnus_graph_faults.specs.WeightedStepChecks.{sample_weights_fault, weighted_bounds_fault, weight_fault}
use Rattle.varcoef_magnus_graph_faults.specs.WeightedStepChecks.{weighted_step_fault}
use Rattle.varcoef_magnus_graph_faults.specs.AcceptedWeightedStep.{AcceptedWeightedStep}

pub no-nodes-accepted : (n : ℕ) → (no_nodes_fault n ≡ Accepted) ↔ (0 < n)
unfolding no_nodes_fault
no-nodes-accepted n = (
  λ h. let g = eqb-false n 0 ((refuse_if-accepted _ _).0 h) in omega arith,
  λ l. (refuse_if-accepted _ _).1 (ne_eqb n 0 (λ e. omega arith)),
)

pub weights-length-accepted : (n first second : ℕ)
    → (weights_length_fault n first second ≡ Accepted) ↔ ((first ≡ n) × (second ≡ n))
unfolding weights_length_fault
weights-length-accepted n first second = (
  λ h.
      let g = (and-eq-true_iff _ _).0 (not-false _ ((refuse_if-accepted _ _).0 h)) in
      (eqb-true first n g.0, eqb-true second n g.1),
  λ p.
      (refuse_if-accepted _ _).1
      (ap not ((and-eq-true_iff _ _).1 (eq-eqb first n p.0, eq-eqb second n p.1))),
)

-- a sample's weights: every one is finite and above 0
abbrev AllPositive : List Float → Type 0
AllPositive weights = (k : ℕ) → k < length weights → Positive (get_or weights k nan)

pub sample-weights-accepted : (weights : List Float) → (sample_weights_fault weights ≡ Accepted) ↔ AllPositive weights
unfolding sample_weights_fault
sample-weights-accepted weights = (
  λ h k l. (positive-accepted _).0 ((refuse_first-accepted _ _ _).0 h k l),
  λ h. (refuse_first-accepted _ _ _).1 (λ k l. (positive-accepted _).1 (h k l)),
)

pub weighted-bounds-accepted : (bound root_bound : Float) (n : ℕ)
    → (weighted_bounds_fault bound root_bound n ≡ Accepted) ↔ (Positive bound × (Positive root_bound × (0 < n)))
unfolding weighted_bounds_fault
weighted-bounds-accepted bound root_bound n =
    bound-accepted bound then bound-accepted root_bound then no-nodes-accepted n

pub weights-accepted : (weights1 weights2 : List Float)
    → (weight_fault weights1 weights2 ≡ Accepted) ↔ (AllPositive weights1 × AllPositive weights2)
unfolding weight_fault
weights-accepted weights1 weights2 = sample-weights-accepted weights1 then sample-weights-accepted weights2

module _ (first second : Sample) (τ bound root_bound : Float) (checked : Bool) (signal output : ℕ)
    (weights1 weights2 : List Float) (work : ℕ) where
  pub weighted-step-accepted :
      (weighted_step_fault first second τ bound root_bound checked signal output weights1 weights2 work ≡ Accepted)
      ↔ AcceptedWeightedStep first second τ bound root_bound checked signal output weights1 weights2 work
  unfolding weighted_step_fault
  weighted-step-accepted =
      let n = first.nodes in
      let chain =
      samples-accepted first second
      then weighted-bounds-accepted bound root_bound n
      then step-length-accepted τ (weighted_bound bound root_bound) checked
      then lengths-accepted n second.nodes signal output
      then weights-length-accepted n (length weights1) (length weights2)
      then room-accepted work (9 * n)
      then weights-accepted weights1 weights2 in
      let common =
      inputs-of-groups first second τ (weighted_bound bound root_bound) checked signal output work (9 * n) in (
        λ h.
            let samples = chain.0 h in
            let bounds = samples.1 in
            let step = bounds.1 in
            let lengths = step.1 in
            let counts = lengths.1 in
            let room = counts.1 in
            record {
              inputs = common.0 (samples.0, step.0, lengths.0, room.0);
              spectral-bound = bounds.0.0;
              root-bound = bounds.0.1.0;
              some-nodes = bounds.0.1.1;
              of-first = record { count = counts.0.0; positive = room.1.0 };
              of-second = record { count = counts.0.1; positive = room.1.1 };
            },
        λ a.
            let g = common.1 a.inputs in
            let nodes : Positive root_bound × (0 < n) = (a.root-bound, a.some-nodes) in
            let counts : (length weights1 ≡ n) × (length weights2 ≡ n) = (a.of-first.count, a.of-second.count) in
            let weights : AllPositive weights1 × AllPositive weights2 =
            (a.of-first.positive, a.of-second.positive) in
            chain.1 (g.0, ((a.spectral-bound, nodes), (g.1, (g.2, (counts, (g.3, weights)))))),
      )
