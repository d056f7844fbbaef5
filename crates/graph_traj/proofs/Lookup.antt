-- The segment in which a time lies is the one segment that holds it, and the last that starts at that time or before it. Assumes nothing.
use mathlib.Core.Path.{◌≡◌, refl, sym, ap, ◌∙◌}
use mathlib.Core.Logic.{inl, inr, ⊎_elim}
use mathlib.Core.Bool.{Bool, true, false, true≢false}
use mathlib.Core.List.{List}
use Prim.Native.Nat.{ℕ, zero, suc, ◌+◌, ◌-◌, ◌≤◌, ◌<◌}
use native.Mathlib.Nat.{not-suc-le-zero, eq-or-lt_of_le, le_of_suc-le-suc}
use native.Mathlib.Numerals.{add-one}
use native.Mathlib.Omega.{arith}
use lib.ListN.{length, take, get_or}
use lib.Seq.{length-take-le, get_or-take}
use lib.Ieee.{Float, lt, le, nan}
use Rattle.std.specs.List.Sorted.{IsPartitionPoint, IsPartitionedBy}
use Rattle.std.proofs.lemmas.List.{get_or_default}
use Rattle.graph_traj.specs.Greatest.{IsGreatest, greatest-is, greatest-only}
use Rattle.graph_traj_breakpoints.specs.Breakpoints.{breakpoint, Breakpoints, Inside}
use Rattle.graph_traj.specs.Lookup.{segment_at, Holds}
use Rattle.graph_traj.proofs.Order.{less-then-at-most, less-not-at-most, less-at-most, not-at-most}

fails : (b : Bool) → (b ≡ true → ⊥) → b ≡ false
fails true h = absurd (h refl)
fails false h = refl

module _ {segments : ℕ} {breakpoints : List Float} (rising : Breakpoints segments breakpoints) where
  -- every breakpoint is below the later ones
  pub rises : (i j : ℕ) → i < j → j ≤ segments → lt (breakpoint breakpoints i) (breakpoint breakpoints j) ≡ true
  rises i zero l m = absurd (not-suc-le-zero l)
  rises i (suc j) l m =
      let step : lt (breakpoint breakpoints j) (breakpoint breakpoints (suc j)) ≡ true =
      rw add-one at (rising.rising j (omega arith)) in
      ⊎_elim (λ (same : i ≡ j). rw same step)
      (λ (less : i < j). less-then-at-most _ _ _ (rises i j less (omega arith)) (less-at-most _ _ step))
      (eq-or-lt_of_le (le_of_suc-le-suc l))

  module _ (t : Float) where
    -- where a breakpoint is at most t, every earlier one is
    pub earlier-at-most : (i j : ℕ)
        → i ≤ j
        → j ≤ segments
        → le (breakpoint breakpoints j) t ≡ true
        → le (breakpoint breakpoints i) t ≡ true
    earlier-at-most i j l m h =
        ⊎_elim (λ (same : i ≡ j). rw same h)
        (λ (less : i < j). less-at-most _ _ (less-then-at-most _ _ _ (rises i j less m) h))
        (eq-or-lt_of_le l)

    -- where one is not, no later one is
    pub later-above : (i j : ℕ)
        → i ≤ j
        → j ≤ segments
        → le (breakpoint breakpoints i) t ≡ false
        → le (breakpoint breakpoints j) t ≡ false
    later-above i j l m h =
        fails (le (breakpoint breakpoints j) t) (λ k. true≢false (sym (earlier-at-most i j l m k) ∙ h))

    -- ---- the segment that holds t

    module _ (inside : Inside segments breakpoints t) where
      is-greatest : IsGreatest (λ i. le (breakpoint breakpoints i) t) segments (segment_at segments breakpoints t)
      unfolding segment_at
      is-greatest = greatest-is _ segments 0 rising.some-segments inside.from_first

      -- the segment in which t lies holds it
      pub segment-holds : Holds segments breakpoints t (segment_at segments breakpoints t)
      segment-holds =
          let g = is-greatest in
          let i = segment_at segments breakpoints t in
          record {
            a-segment = g.within;
            from_start = g.found;
            to_end =
                ⊎_elim (λ (last : i + 1 ≡ segments). inr (last, rw last inside.to_last))
                (λ (less : i + 1 < segments).
                inl
                (not-at-most (breakpoint breakpoints 0) (breakpoint breakpoints (i + 1)) t (rising.finite-at (i + 1) (omega arith))
                inside.from_first (g.none (i + 1) (omega arith) less)))
                (eq-or-lt_of_le (omega (arith, g.within)));
          }

    -- no other segment holds t
    pub segment-only : (i : ℕ) → Holds segments breakpoints t i → i ≡ segment_at segments breakpoints t
    unfolding segment_at
    segment-only i h =
        greatest-only (record { within = h.a-segment; found = h.from_start; none = none-later })
      where
        none-later : (j : ℕ) → i < j → j < segments → le (breakpoint breakpoints j) t ≡ false
        none-later j l m =
            ⊎_elim (λ (below : lt t (breakpoint breakpoints (i + 1)) ≡ true).
            later-above (i + 1) j (omega arith) (omega arith)
            (fails (le (breakpoint breakpoints (i + 1)) t) (less-not-at-most t (breakpoint breakpoints (i + 1)) below)))
            (λ (last : (i + 1 ≡ segments) × (le t (breakpoint breakpoints (i + 1)) ≡ true)). absurd (omega (arith, last.0)))
            h.to_end

-- ---- the search

module _ {segments : ℕ} {breakpoints : List Float} (t : Float) (rising : Breakpoints segments breakpoints) where
  abbrev starts : List Float
  starts = take segments breakpoints

  count : length starts ≡ segments
  count = length-take-le segments breakpoints (omega (arith, rising.count))

  -- whether a segment starts at t or before it
  tested : (i : ℕ) (d : Float) → i < segments → le (get_or starts i d) t ≡ le (breakpoint breakpoints i) t
  tested i d l =
      ap (λ x. le x t) (get_or_default starts i d nan (omega (arith, count, l)) ∙ get_or-take segments breakpoints i nan l)

  -- no segment that does comes after one that does not
  pub starts-parted : IsPartitionedBy (λ x. le x t) starts
  starts-parted i j d l m h =
      let a-segment : j < segments = omega (arith, count, m) in
      tested i d (omega arith) ∙ earlier-at-most rising t i j l (omega arith) (sym (tested j d a-segment) ∙ h)

  module _ (inside : Inside segments breakpoints t) {r : ℕ} (bound : r ≤ length starts)
      (point : IsPartitionPoint (λ x. le x t ≡ true) (λ x. le x t ≡ false) starts r) where
    -- segment 0 does
    pub some-start : 1 ≤ r
    some-start =
        let none : r ≤ 0 → ⊥ = λ z.
        true≢false
        (sym inside.from_first
        ∙ sym (tested 0 nan rising.some-segments)
        ∙ point.1 0 nan z (omega (arith, count, rising.some-segments))) in
        omega arith

    -- the last that does is the one in which t lies
    pub last-start : r - 1 ≡ segment_at segments breakpoints t
    unfolding segment_at
    last-start =
        let within : r - 1 < segments = omega (arith, bound, count, some-start) in
        greatest-only
        (record {
          within = within;
          found = sym (tested (r - 1) nan within) ∙ point.0 (r - 1) nan (omega arith) (omega (arith, some-start));
          none = λ j later below. sym (tested j nan below) ∙ point.1 j nan (omega arith) (omega (arith, count));
        })
