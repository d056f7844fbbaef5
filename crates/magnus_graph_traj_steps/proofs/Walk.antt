-- How a loop of a run walks: over the steps of a segment, or over the segments. The list of steps that it is to take grows turn by
-- turn, and it keeps `Walked`, that the steps of the turns so far were taken and none refused. Assumes nothing.
use mathlib.Core.Path.{◌≡◌, sym, ap, ◌∙◌, subst}
use mathlib.Core.List.{List, [], ◌∷◌, ◌++◌}
use Prim.Native.Nat.{ℕ, suc, ◌+◌, ◌≤◌, ◌<◌}
use native.Mathlib.Numerals.{add-one}
use native.Mathlib.Omega.{arith}
use lib.Ieee.{Float}
use Rattle.error.specs.declared.Refusal.{Refusal}
use Rattle.error.specs.Answer.{Checked}
use Rattle.error.specs.Answer.{Accepted, Refused}
use Rattle.graph_traj_segment.specs.declared.kernel.Segment.{Segment}
use Rattle.graph_traj_segment.specs.SegmentValue.{next_step}
use Rattle.magnus_graph_traj_steps.specs.RunSteps.{RunStep, step_in, segment_steps}
use Rattle.magnus_graph_traj_steps.specs.StepsTaken.{StepsTaken}
use Rattle.magnus_graph_traj_steps.proofs.Courses.{no_steps, segment-grows, segment_before}
use Rattle.magnus_graph_traj_steps.proofs.StepsTaken.{none-taken, more-taken, stays-refused}

-- ---- the walk

-- in i of so many turns the steps of `grown i` were taken in the work slice w₀, now w
pub record Walked (fault : RunStep → Checked) (image : RunStep → List Float → List Float) (n need : ℕ) (grown : ℕ → List RunStep)
    (turns i : ℕ) (w₀ w : List Float) : Type 0 where
  pub within : i ≤ turns
  pub taken : StepsTaken fault image n need (grown i) Accepted w₀ w

module _ {fault : RunStep → Checked} {image : RunStep → List Float → List Float} {n need : ℕ} (grown : ℕ → List RunStep) where
  -- it begins
  pub walk_begins : (turns : ℕ) (w : List Float) → grown 0 ≡ [] → Walked fault image n need grown turns 0 w w
  walk_begins turns w none = record {
    within = omega arith;
    taken = subst (λ (ss : List RunStep). StepsTaken fault image n need ss Accepted w w) (sym none) (none-taken w);
  }

  -- it ends
  pub walk_ends : {turns i : ℕ} {w₀ w : List Float}
      → Walked fault image n need grown turns i w₀ w
      → turns ≤ i
      → StepsTaken fault image n need (grown turns) Accepted w₀ w
  walk_ends {turns} {i} walked l = let e : i ≡ turns = omega (arith, walked.within) in rw e at walked.taken

  -- one turn
  module _ (more : ℕ → List RunStep) (grows : (k : ℕ) → grown (suc k) ≡ grown k ++ more k) {turns i : ℕ} {w₀ w w' : List Float}
      {answer : Checked} (walked : Walked fault image n need grown turns i w₀ w) (l : i < turns)
      (made : StepsTaken fault image n need (more i) answer w w') where
    turned : StepsTaken fault image n need (grown (suc i)) answer w₀ w'
    turned =
        subst (λ (ss : List RunStep). StepsTaken fault image n need ss answer w₀ w') (sym (grows i)) (more-taken walked.taken made)

    -- no step of it refused
    pub walk-on : answer ≡ Accepted → Walked fault image n need grown turns (i + 1) w₀ w'
    walk-on p = record {
      within = omega arith;
      taken = rw add-one (subst (λ (a : Checked). StepsTaken fault image n need (grown (suc i)) a w₀ w') p turned);
    }

    -- one did, and it was the last to be taken
    pub walk-stops : {r : Refusal} → answer ≡ Refused r → StepsTaken fault image n need (grown turns) answer w₀ w'
    walk-stops p = stays-refused grown more grows l p turned

-- ---- over the steps of a segment

-- j of the steps of segment k were taken, and the segment's value is the one before step j
pub record StepsWalked (fault : RunStep → Checked) (image : RunStep → List Float → List Float) (n need : ℕ) (first : Segment)
    (k steps j : ℕ) (w₀ w : List Float) (segment : Segment) : Type 0 where
  pub walked : Walked fault image n need (segment_steps k) steps j w₀ w
  pub here : segment ≡ segment_before first j
  pub number : segment.step ≡ j

module _ {fault : RunStep → Checked} {image : RunStep → List Float → List Float} {n need : ℕ} {first : Segment} {k : ℕ} where
  pub steps-begin : (steps : ℕ) (w : List Float) {segment : Segment}
      → segment ≡ segment_before first 0
      → StepsWalked fault image n need first k steps 0 w w segment
  steps-begin steps w e = record { walked = walk_begins (segment_steps k) steps w (no_steps k); here = e; number = ap (λ (s : Segment). s.step) e }

  module _ {steps j : ℕ} {w₀ w : List Float} {segment : Segment} (walk : StepsWalked fault image n need first k steps j w₀ w segment) where
    pub steps-end : steps ≤ j → StepsTaken fault image n need (segment_steps k steps) Accepted w₀ w
    steps-end l = walk_ends (segment_steps k) walk.walked l

    -- one step
    module _ (l : j < steps) {answer : Checked} {w' : List Float} (made : StepsTaken fault image n need (step_in k j ∷ []) answer w w') where
      pub steps_on : {after : Segment}
          → after ≡ next_step segment
          → answer ≡ Accepted
          → StepsWalked fault image n need first k steps (j + 1) w₀ w' after
      steps_on e p = record {
        walked = walk-on (segment_steps k) (λ i. step_in k i ∷ []) (segment-grows k) walk.walked l made p;
        here = e ∙ ap next_step walk.here;
        number = ap (λ (s : Segment). s.step) (e ∙ ap next_step walk.here);
      }

      pub steps-stop : {r : Refusal} → answer ≡ Refused r → StepsTaken fault image n need (segment_steps k steps) answer w₀ w'
      steps-stop p = walk-stops (segment_steps k) (λ i. step_in k i ∷ []) (segment-grows k) walk.walked l made p
