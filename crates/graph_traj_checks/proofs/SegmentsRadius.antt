-- How a walk by pairs of breakpoints makes row 8 of each segment: it keeps `Walked`, that the segments before the breakpoints that are left are
-- accepted. Assumes nothing.
use mathlib.Core.Path.{◌≡◌, sym, ap, ◌∙◌, subst}
use mathlib.Core.Bool.{Bool}
use mathlib.Core.List.{List}
use Prim.Native.Nat.{ℕ, ◌+◌, ◌-◌, ◌≤◌, ◌<◌}
use native.Mathlib.Omega.{arith}
use lib.ListN.{length, get_or, drop}
use lib.Ieee.{Float, nan}
use Rattle.std.proofs.Common.{Option, Some, None, Bor}
use Rattle.std.specs.declared.slice.Windows.{Windows}
use Rattle.std.specs.Slice.Iter.{windows_size, windows_rest, windows_steps}
use Rattle.std.proofs.lemmas.Iterator.{window_more}
use Rattle.error.specs.declared.Refusal.{Refusal}
use Rattle.error.specs.Answer.{Checked}
use Rattle.error.specs.Answer.{Accepted, Refused}
use Rattle.graph_traj_segment.specs.declared.kernel.Segment.{Segment}
use Rattle.graph_traj_breakpoints.specs.Breakpoints.{breakpoint, Breakpoints}
use Rattle.graph_traj_segment.specs.SegmentValue.{segment_of}
use Rattle.magnus_graph_faults.specs.StepChecks.{radius_fault}
use Rattle.graph_traj_faults.specs.Each.{each}
use Rattle.graph_traj_faults.specs.RunChecks.{tau_of, segments_radius_fault}
use Rattle.graph_traj_faults.proofs.Each.{each_none, each-accepted-then, each-refused-here}

module _ (checked : Bool) (bound : Float) (steps : ℕ) (breakpoints : List Float) where
  -- the check of segment i
  abbrev At : ℕ → Checked
  At i = radius_fault checked (tau_of breakpoints steps i) bound

  -- which segment the breakpoints that are left begin with
  abbrev next_of : Windows Float → ℕ
  next_of w = length breakpoints - length (windows_rest w)

  pub record Walked (segments : ℕ) (w : Windows Float) : Type 0 where
    pub by-pairs : windows_size w ≡ 2
    pub some-left : 0 < length (windows_rest w)
    pub within : length (windows_rest w) ≤ length breakpoints
    pub left : windows_rest w ≡ drop (next_of w) breakpoints
    pub accepted : each At (next_of w) ≡ Accepted

module _ {checked : Bool} {bound : Float} {steps : ℕ} {breakpoints : List Float} {segments : ℕ} (given : Breakpoints segments breakpoints) where
  -- it begins
  pub walk_begins : (w : Windows Float) → windows_rest w ≡ breakpoints → windows_size w ≡ 2 → Walked checked bound steps breakpoints segments w
  walk_begins w whole size =
      let all : length (windows_rest w) ≡ length breakpoints = ap length whole in
      let none : next_of checked bound steps breakpoints w ≡ 0 = omega (arith, all) in
      record {
        by-pairs = size;
        some-left = omega (arith, all, given.count);
        within = omega (arith, all);
        left = rw none whole;
        accepted = rw none (each_none _);
      }

  module _ {w : Windows Float} (walked : Walked checked bound steps breakpoints segments w) where
    -- the segment that the breakpoints that are left begin with
    abbrev i : ℕ
    i = next_of checked bound steps breakpoints w

    -- a pair is left
    module _ (w' : Windows Float) {next : Option (Bor (List Float))} {pair : Bor (List Float)} (is : next ≡ Some pair) (goes : windows_steps w next w')
        {answer : Checked} {s : Segment} (e : s ≡ segment_of (get_or pair.now 0 nan) (get_or pair.now 1 nan) steps)
        (made : answer ≡ radius_fault checked s.tau bound) where
      pair-left : (length (windows_rest w') + 1 ≡ length (windows_rest w))
          × (windows_rest w' ≡ drop (next_of checked bound steps breakpoints w') breakpoints)
          × (windows_size w ≤ length (windows_rest w))
          × ((k : ℕ) (d : Float) → k < windows_size w → get_or pair.now k d ≡ get_or breakpoints (i + k) d)
      pair-left = window_more breakpoints w w' next pair is goes (omega (arith, walked.by-pairs)) walked.within walked.left

      -- it is that of segment i, and the check with the segment's own τ is that of segment i
      of-segment : answer ≡ At checked bound steps breakpoints i
      of-segment =
          let first = pair-left.3 0 nan (omega (arith, walked.by-pairs)) ∙ ap (breakpoint breakpoints) {x = i + 0} {y = i} (omega arith) in
          let second = pair-left.3 1 nan (omega (arith, walked.by-pairs)) in
          let of_pair = e ∙ ap (λ (x : Float). segment_of x (get_or pair.now 1 nan) steps) first
          ∙ ap (λ (y : Float). segment_of (breakpoint breakpoints i) y steps) second in
          made ∙ ap (λ (v : Segment). radius_fault checked v.tau bound) of_pair

      -- it accepted
      pub walk-on : answer ≡ Accepted → Walked checked bound steps breakpoints segments w'
      walk-on p =
          let next : next_of checked bound steps breakpoints w' ≡ i + 1 = omega (arith, pair-left.0, walked.within) in
          record {
            by-pairs = goes.0 ∙ walked.by-pairs;
            some-left = omega (arith, pair-left.0, pair-left.2, walked.by-pairs);
            within = omega (arith, pair-left.0, walked.within);
            left = pair-left.1;
            accepted =
                ap (each (At checked bound steps breakpoints)) next ∙ each-accepted-then _ i answer walked.accepted of-segment p;
          }

      -- it refused
      pub walk-refused : {r : Refusal} → answer ≡ Refused r → answer ≡ segments_radius_fault checked bound steps breakpoints segments
      unfolding segments_radius_fault
      walk-refused {r} p =
          let here : i < segments = omega (arith, pair-left.2, walked.by-pairs, walked.within, given.count) in
          each-refused-here _ segments i answer r here walked.accepted of-segment p

    -- no pair is left, and no segment
    pub walk_ends : (w' : Windows Float) {next : Option (Bor (List Float))} → next ≡ None → windows_steps w next w'
        → Accepted ≡ segments_radius_fault checked bound steps breakpoints segments
    unfolding segments_radius_fault
    walk_ends w' p goes =
        let short = (subst (λ (o : Option (Bor (List Float))). windows_steps w o w') p goes).1.0 in
        let all : segments ≡ i = omega (arith, short, walked.by-pairs, walked.some-left, walked.within, given.count) in
        sym (ap (each (At checked bound steps breakpoints)) all ∙ walked.accepted)
