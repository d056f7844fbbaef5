-- The steps of the run, by the law of its one segment: under law 2 the samples are those of law 2, and under laws 0 and 1 both samples
-- are the list that the law names, which row 20 does not refuse, since it is finite. Assumes nothing.
use mathlib.Core.Path.{◌≡◌, sym, ap, ◌∙◌}
use mathlib.Core.Bool.{true, not}
use mathlib.Core.List.{List}
use Prim.Native.Nat.{ℕ, ◌*◌, ◌≤◌, ◌<◌}
use native.Mathlib.Omega.{arith}
use lib.ListN.{length, get_or}
use lib.Ieee.{Float, nan}
use lib.Ieee.Scale.{finite}
use Rattle.scratch.specs.Parts.{part}
use Rattle.error.specs.Checks.{next}
use Rattle.error.specs.Answer.{Checked}
use Rattle.error.specs.Answer.{Accepted}
use Rattle.graph_shape.proofs.First.{accepts-none}
use Rattle.magnus_graph_outcome.specs.StepOutcome.{adjoint}
use Rattle.varcoef_magnus_graph_faults.specs.WeightedStepChecks.{weight_fault}
use Rattle.graph_traj_laws.specs.Laws.{law_values, by_law, values_at, law_list}
use Rattle.graph_traj_laws.proofs.Laws.{whole-pool, law-values, law-list-has}
use Rattle.graph_traj_breakpoints.specs.Breakpoints.{breakpoint}
use Rattle.graph_traj_segment.specs.Times.{c1, c2}
use Rattle.graph_traj_parts.specs.Trajectory.{Trajectory, AcceptedAdjointTrajectory}
use Rattle.graph_traj_samples.specs.Sampled.{sampled_fault}
use Rattle.magnus_graph_traj_steps.specs.RunSteps.{RunStep, step_in, adjoint_course, segment_steps, sample_at, fraction_at, run_step_fault}
use Rattle.varcoef_magnus_graph_traj_steps.specs.WeightedRunSteps.{weights_at, weighted_run_step_fault, weighted_run_step_image}
use Rattle.varcoef_magnus_graph_traj_step.specs.StepTaken.{step_image}
use Rattle.varcoef_magnus_graph_traj_steps.specs.SampledSteps.{sampled_step_fault, sampled_step_image}
use Rattle.magnus_graph_traj_steps.specs.StepsTaken.{StepsTaken}
use Rattle.magnus_graph_traj_steps.proofs.StepsTaken.{same_taken}

-- row 20 refuses nothing of a finite list
finite-accepted : (x : List Float) → ((k : ℕ) → k < length x → finite (get_or x k nan) ≡ true) → sampled_fault x ≡ Accepted
unfolding sampled_fault
finite-accepted x all-finite = sym (accepts-none _ _ _ (λ k h. ap not (all-finite k h)))

module _ (t : Trajectory) (start_weights end_weights : List Float) (τ : Float) (steps : ℕ)
    (size-starts : length t.starts ≡ length t.cols) (size-ends : length t.ends ≡ length t.cols)
    (size-weights : length start_weights ≡ t.nodes) (need : ℕ) where
  abbrev m : ℕ
  m = length t.cols

  abbrev fault : RunStep → Checked
  fault = weighted_run_step_fault t start_weights end_weights (adjoint_course τ steps)

  abbrev image : RunStep → List Float → List Float
  image = weighted_run_step_image t start_weights end_weights (adjoint_course τ steps) adjoint

  abbrev Taken : Checked → List Float → List Float → Type 0
  Taken answer w w' = StepsTaken fault image t.nodes need (segment_steps 0 steps) answer w w'

  -- ---- law 2

  module _ (law : get_or t.laws 0 0 ≡ 2) where
    abbrev f : ℕ → Float → Float
    f j c = fraction_at t (adjoint_course τ steps) (step_in 0 j) c

    values-2 : (j : ℕ) (c : Float)
        → law_values (length t.starts) (f j c) t.starts t.ends ≡ sample_at t (adjoint_course τ steps) (step_in 0 j) c
    unfolding sample_at values_at by_law
    values-2 j c =
        let s = whole-pool m t.starts size-starts in
        let e = whole-pool m t.ends size-ends in
        sym (ap (λ (k : ℕ). by_law k (part (0 * m) m t.starts) (part (0 * m) m t.ends)
        (law_values m (f j c) (part (0 * m) m t.starts) (part (0 * m) m t.ends))) law
        ∙ (λ i. law_values (sym size-starts i) (f j c) (s i) (e i)))

    weights-2 : (j : ℕ) (c : Float)
        → law_values (length start_weights) (f j c) start_weights end_weights
        ≡ weights_at t start_weights end_weights (adjoint_course τ steps) (step_in 0 j) c
    unfolding weights_at values_at by_law
    weights-2 j c =
        sym (ap (λ (k : ℕ). by_law k start_weights end_weights (law_values t.nodes (f j c) start_weights end_weights)) law
        ∙ (λ i. law_values (sym size-weights i) (f j c) start_weights end_weights))

    pub taken-2 : {answer : Checked} {w w' : List Float}
        → let from = breakpoint t.breakpoints 0 in
        let to = breakpoint t.breakpoints 1 in
        StepsTaken (sampled_step_fault t.nodes t.row_starts t.cols t.starts t.ends start_weights end_weights from to τ steps)
        (sampled_step_image t.nodes t.row_starts t.cols t.starts t.ends start_weights end_weights from to τ steps)
        t.nodes need (segment_steps 0 steps) answer w w'
        → Taken answer w w'
    unfolding weighted_run_step_fault run_step_fault
    taken-2 =
        same_taken 0 _ fault _ image
        (λ j i. next (next (sampled_fault (values-2 j c1 i)) (sampled_fault (values-2 j c2 i))) (weight_fault (weights-2 j c1 i) (weights-2 j c2 i)))
        (λ j i. step_image t.nodes t.row_starts t.cols τ (values-2 j c1 i) (values-2 j c2 i) (weights-2 j c1 i) (weights-2 j c2 i))
        steps

  -- ---- laws 0 and 1: x and a are the lists that the law names

  module _ (x a : List Float)
      (values : (j : ℕ) (c : Float) → sample_at t (adjoint_course τ steps) (step_in 0 j) c ≡ x)
      (weights : (j : ℕ) (c : Float) → weights_at t start_weights end_weights (adjoint_course τ steps) (step_in 0 j) c ≡ a)
      (accepted : sampled_fault x ≡ Accepted) where
    pub taken-constant : {answer : Checked} {w w' : List Float}
        → StepsTaken (λ (s : RunStep). weight_fault a a) (λ (s : RunStep). step_image t.nodes t.row_starts t.cols τ x x a a)
        t.nodes need (segment_steps 0 steps) answer w w'
        → Taken answer w w'
    unfolding weighted_run_step_fault run_step_fault next
    taken-constant =
        same_taken 0 _ fault _ image
        (λ j. sym ((λ i. next (next (sampled_fault (values j c1 i)) (sampled_fault (values j c2 i))) (weight_fault (weights j c1 i) (weights j c2 i)))
        ∙ (λ i. next (next (accepted i) (accepted i)) (weight_fault a a))))
        (λ j. sym (λ i. step_image t.nodes t.row_starts t.cols τ (values j c1 i) (values j c2 i) (weights j c1 i) (weights j c2 i)))
        steps

  -- the law is 0 or 1
  pub taken-listed : length end_weights ≡ t.nodes
      → get_or t.laws 0 0 ≤ 1
      → ((k : ℕ) → k < length t.starts → finite (get_or t.starts k nan) ≡ true)
      → ((k : ℕ) → k < length t.ends → finite (get_or t.ends k nan) ≡ true)
      → {x a : List Float}
      → x ≡ law_list (get_or t.laws 0 0) 0 m t.starts t.ends
      → a ≡ law_list (get_or t.laws 0 0) 0 t.nodes start_weights end_weights
      → {answer : Checked} {w w' : List Float}
      → StepsTaken (λ (s : RunStep). weight_fault a a) (λ (s : RunStep). step_image t.nodes t.row_starts t.cols τ x x a a)
      t.nodes need (segment_steps 0 steps) answer w w'
      → Taken answer w w'
  unfolding sample_at weights_at
  taken-listed size-ends-weights constant finite-starts finite-ends {x} {a} values weights =
      let law = get_or t.laws 0 0 in
      let s = whole-pool t.nodes start_weights size-weights in
      let e = whole-pool t.nodes end_weights size-ends-weights in
      let s-accepted = ap sampled_fault (whole-pool m t.starts size-starts) ∙ finite-accepted t.starts finite-starts in
      let e-accepted = ap sampled_fault (whole-pool m t.ends size-ends) ∙ finite-accepted t.ends finite-ends in
      taken-constant x a
      (λ j c. law-values law 0 m (fraction_at t (adjoint_course τ steps) (step_in 0 j) c) t.starts t.ends constant ∙ sym values)
      (λ j c. (λ i. values_at law t.nodes (fraction_at t (adjoint_course τ steps) (step_in 0 j) c) (sym s i) (sym e i))
      ∙ law-values law 0 t.nodes (fraction_at t (adjoint_course τ steps) (step_in 0 j) c) start_weights end_weights constant
      ∙ sym weights)
      (ap sampled_fault values
      ∙ law-list-has (λ (l : List Float). sampled_fault l ≡ Accepted) law 0 m t.starts t.ends s-accepted e-accepted)

-- ---- what the run's trajectory has

module _ (t : Trajectory) (accepted : AcceptedAdjointTrajectory t) where
  one_list : (len : ℕ) → len ≡ t.segments * length t.cols → len ≡ length t.cols
  one_list len e =
      let h = e ∙ ap (λ (k : ℕ). k * length t.cols) accepted.one-segment in
      omega (arith, h)

  pub starts-size : length t.starts ≡ length t.cols
  starts-size = one_list _ accepted.accepted.counts.of-starts

  pub ends-size : length t.ends ≡ length t.cols
  ends-size = one_list _ accepted.accepted.counts.of-ends

  pub law-there : 0 < length t.laws
  law-there = omega (arith, accepted.accepted.counts.of_laws, accepted.one-segment)

  pub breakpoints-there : length t.breakpoints ≡ 2
  breakpoints-there = omega (arith, accepted.accepted.counts.of-breakpoints, accepted.one-segment)

  pub law-known : get_or t.laws 0 0 ≤ 2
  law-known = accepted.accepted.lists.known-laws 0 law-there
