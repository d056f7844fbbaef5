-- What the checks of the lookup accept: rows 13 to 15 exactly the `Breakpoints` of so many segments, row 18 exactly a time `Inside`
-- them. Assumes nothing.
use mathlib.Core.Path.{◌≡◌, refl, ap}
use mathlib.Core.Logic.{◌↔◌, ⊎_elim}
use mathlib.Core.Bool.{Bool, true, false, not, ◌&&◌, and-eq-true_iff, true≢false, false≢true}
use mathlib.Core.List.{List}
use Prim.Native.Nat.{ℕ, ◌+◌, ◌-◌, ◌≤◌, ◌<◌}
use native.Mathlib.Nat.{eq-zero-or-pos}
use native.Mathlib.Omega.{arith}
use lib.ListN.{length}
use lib.Ieee.{Float, lt}
use lib.Ieee.Scale.{finite}
use borrow.Author.Tests.{lt-ltb, le-ltb, not-false}
use Rattle.error.specs.Answer.{Accepted}
use Rattle.error.proofs.Checks.{refuse_if-accepted, next-accepted}
use Rattle.graph_traj_counts.proofs.Sound.{neither}
pub use Rattle.graph_traj_counts.proofs.Sound.{count-accepted, segment-count-accepted, pool-count-accepted}
use Rattle.graph_checks.proofs.First.{refuse_first-accepted}
use Rattle.graph_traj_breakpoints.specs.Breakpoints.{breakpoint, Breakpoints, Inside}
use Rattle.graph_traj_breakpoints.specs.LookupChecks.{not_rising_at, breakpoints_fault, lookup_time_fault, lookup_fault}

-- the test of row 15 fails exactly at a finite breakpoint above its predecessor
abbrev RisingAt : List Float → ℕ → Type 0
RisingAt breakpoints i =
    (finite (breakpoint breakpoints i) ≡ true)
    × (0 < i → lt (breakpoint breakpoints (i - 1)) (breakpoint breakpoints i) ≡ true)

rising-at : (breakpoints : List Float) (i : ℕ) → (not_rising_at breakpoints i ≡ false) ↔ RisingAt breakpoints i
unfolding not_rising_at
rising-at breakpoints i = (
  λ h.
      let g = (neither _ _).0 h in
      (not-false _ g.0, λ l. not-false _ ((where-later _ _ (lt-ltb 0 i l)).0 g.1)),
  λ p.
      (neither _ _).1 (
        ap not p.0,
        ⊎_elim (λ (z : i ≡ 0). not-later _ _ (le-ltb 0 i (omega arith)))
            (λ (l : 0 < i). (where-later _ _ (lt-ltb 0 i l)).1 (ap not (p.1 l)))
            (eq-zero-or-pos i),
      ),
)
  where
    where-later : (a b : Bool) → a ≡ true → ((a && b) ≡ false) ↔ (b ≡ false)
    where-later true b e = (λ h. h, λ h. h)
    where-later false b e = absurd (false≢true e)

    not-later : (a b : Bool) → a ≡ false → (a && b) ≡ false
    not-later true b e = absurd (true≢false e)
    not-later false b e = refl

pub breakpoints-accepted : (segments : ℕ) (breakpoints : List Float)
    → 0 < segments
    → segments ≤ 65535
    → length breakpoints ≡ segments + 1
    → (breakpoints_fault breakpoints ≡ Accepted) ↔ Breakpoints segments breakpoints
unfolding breakpoints_fault
breakpoints-accepted segments breakpoints some few count = (
  λ h.
      let each = (refuse_first-accepted _ _ _).0 h in
      record {
        some-segments = some;
        few-segments = few;
        count = count;
        finite-at = λ i l. ((rising-at breakpoints i).0 (each i (omega arith))).0;
        rising = λ i l.
            let same : i + 1 - 1 ≡ i = omega arith in
            rw same at (((rising-at breakpoints (i + 1)).0 (each (i + 1) (omega arith))).1 (omega arith));
      },
  λ b. (refuse_first-accepted _ _ _).1 (λ i l. (rising-at breakpoints i).1 (b.finite-at i (omega arith), above b i l)),
)
  where
    above : Breakpoints segments breakpoints
        → (i : ℕ)
        → i < length breakpoints
        → 0 < i
        → lt (breakpoint breakpoints (i - 1)) (breakpoint breakpoints i) ≡ true
    above b i l m = let same : i - 1 + 1 ≡ i = omega arith in rw same at (b.rising (i - 1) (omega (arith, count)))

pub lookup-time-accepted : (segments : ℕ) (breakpoints : List Float) (t : Float)
    → (lookup_time_fault (breakpoint breakpoints 0) (breakpoint breakpoints segments) t ≡ Accepted)
    ↔ Inside segments breakpoints t
unfolding lookup_time_fault
lookup-time-accepted segments breakpoints t = (
  λ h.
      let g = (and-eq-true_iff _ _).0 (not-false _ ((refuse_if-accepted _ _).0 h)) in
      record { from_first = g.0; to_last = g.1 },
  λ p. (refuse_if-accepted _ _).1 (ap not ((and-eq-true_iff _ _).1 (p.from_first, p.to_last))),
)

pub lookup-accepted : (segments : ℕ) (breakpoints : List Float) (t : Float)
    → (lookup_fault segments breakpoints t ≡ Accepted) ↔ (Breakpoints segments breakpoints × Inside segments breakpoints t)
unfolding lookup_fault
lookup-accepted segments breakpoints t = (says, holds)
  where
    says : lookup_fault segments breakpoints t ≡ Accepted → Breakpoints segments breakpoints × Inside segments breakpoints t
    says h =
        let number = (next-accepted _ _).0 h in
        let count = (next-accepted _ _).0 number.1 in
        let rising = (next-accepted _ _).0 count.1 in
        let some = (segment-count-accepted segments).0 number.0 in
        let wanted = (pool-count-accepted (length breakpoints) (segments + 1)).0 count.0 in (
          (breakpoints-accepted segments breakpoints some.0 some.1 wanted).0 rising.0,
          (lookup-time-accepted segments breakpoints t).0 rising.1,
        )

    holds : Breakpoints segments breakpoints × Inside segments breakpoints t → lookup_fault segments breakpoints t ≡ Accepted
    holds (b, inside) =
        (next-accepted _ _).1 (
          (segment-count-accepted segments).1 (b.some-segments, b.few-segments),
          (next-accepted _ _).1 (
            (pool-count-accepted (length breakpoints) (segments + 1)).1 b.count,
            (next-accepted _ _).1 (
              (breakpoints-accepted segments breakpoints b.some-segments b.few-segments b.count).1 b,
              (lookup-time-accepted segments breakpoints t).1 inside,
            ),
          ),
        )
