-- Segment k's lists in the pools of an accepted trajectory: how long they are, that their values are finite, and that a step with them
-- is one in segment k of the pools. Assumes nothing.
use mathlib.Core.Path.{◌≡◌, ap, ◌∙◌, subst₂}
use mathlib.Core.Bool.{true}
use mathlib.Core.List.{List}
use Prim.Native.Nat.{ℕ, ◌+◌, ◌*◌, ◌≤◌, ◌<◌}
use native.Mathlib.Omega.{arith}
use lib.ListN.{length, get_or}
use lib.Ieee.{Float, nan}
use lib.Ieee.Scale.{finite}
use Rattle.scratch.specs.Parts.{part}
use Rattle.scratch.proofs.Parts.{length_part, get_d_part}
use Rattle.error.specs.Answer.{Checked}
use Rattle.graph_traj_segment.specs.declared.kernel.Segment.{Segment}
use Rattle.graph_traj_segment.specs.Times.{c1, c2, fraction, sample_time}
use Rattle.graph_traj_laws.proofs.Laws.{list-within}
use Rattle.graph_traj_parts.specs.Trajectory.{Trajectory, AcceptedTrajectory}
use Rattle.magnus_graph_traj_step.specs.RunStepTaken.{RunStepTaken}
use Rattle.magnus_graph_traj_step.proofs.RunStep.{in-pools}
use Rattle.magnus_graph_traj_run.specs.StepAt.{StepAt}

module _ (t : Trajectory) where
  abbrev m : ℕ
  m = length t.cols

  -- the pools hold segment k's lists
  pub starts-hold : AcceptedTrajectory t → (k : ℕ) → k < t.segments → k * m + m ≤ length t.starts
  starts-hold given k l = omega (arith, list-within k t.segments m l, given.counts.of-starts)

  pub ends-hold : AcceptedTrajectory t → (k : ℕ) → k < t.segments → k * m + m ≤ length t.ends
  ends-hold given k l = omega (arith, list-within k t.segments m l, given.counts.of-ends)

  module _ (k : ℕ) where
    -- segment k's list in a pool
    module _ (pool : List Float) (held : k * m + m ≤ length pool) {list : List Float} (cut : list ≡ part (k * m) m pool) where
      pub cut-length : length list ≡ m
      cut-length = ap length cut ∙ length_part (k * m) m pool held

      pub cut-finite : ((i : ℕ) → i < length pool → finite (get_or pool i nan) ≡ true)
          → (i : ℕ) → i < length list → finite (get_or list i nan) ≡ true
      cut-finite all-finite i l =
          let here : i < m = omega (arith, l, cut-length) in
          ap (λ (v : List Float). finite (get_or v i nan)) cut
          ∙ ap finite (get_d_part (k * m) m pool i nan here)
          ∙ all-finite (k * m + i) (omega arith)

    -- the step with both lists, whose samples lie at the segment's Gauss nodes
    pub step-of-cut : (segment : Segment) (start sign : Float) {first last : List Float} {t1 t2 f1 f2 : Float} {answer : Checked} {w w' : List Float}
        → k * m + m ≤ length t.starts
        → k * m + m ≤ length t.ends
        → first ≡ part (k * m) m t.starts
        → last ≡ part (k * m) m t.ends
        → t1 ≡ sample_time start c1 segment.tau
        → t2 ≡ sample_time start c2 segment.tau
        → f1 ≡ fraction t1 segment.start segment.end
        → f2 ≡ fraction t2 segment.start segment.end
        → RunStepTaken t.nodes t.row_starts t.cols (get_or t.laws k 0) first last 0 segment.tau f1 f2 sign answer w w'
        → StepAt t k segment start sign answer w w'
    step-of-cut segment start sign {f1 = f1} {f2 = f2} {answer = answer} {w = w} {w' = w'} p q cut-first cut-last time1 time2 way1 way2 taken =
        let law = get_or t.laws k 0 in
        let here = subst₂ (λ (s e : List Float). RunStepTaken t.nodes t.row_starts t.cols law s e 0 segment.tau f1 f2 sign answer w w')
        cut-first cut-last taken in
        subst₂ (λ (x y : Float). RunStepTaken t.nodes t.row_starts t.cols law t.starts t.ends k segment.tau x y sign answer w w')
        (way1 ∙ ap (λ (x : Float). fraction x segment.start segment.end) time1)
        (way2 ∙ ap (λ (x : Float). fraction x segment.start segment.end) time2)
        (in-pools t.nodes t.row_starts t.cols law t.starts t.ends k segment.tau f1 f2 sign p q here)
