-- What the checks of the counts accept. Assumes nothing.
use mathlib.Core.Path.{◌≡◌, refl}
use mathlib.Core.Logic.{◌↔◌}
use mathlib.Core.Bool.{Bool, true, false, ◌||◌, true≢false}
use Prim.Native.Nat.{ℕ, ◌≤◌, ◌<◌}
use native.Mathlib.Omega.{arith}
use lib.Dec.{eqb, ltb}
use borrow.Author.Tests.{eqb-false, ne_eqb, ltb-false, le-ltb}
use Rattle.error.specs.Checks.{refuse_if}
use Rattle.error.specs.declared.Refusal.{Refusal}
use Rattle.error.specs.Answer.{Accepted}
use Rattle.error.proofs.Checks.{refuse_if-accepted, refuse_unequal-accepted}
use Rattle.graph_traj_counts.specs.CountChecks.{segment_count_fault, pool_count_fault}

-- neither of two tests holds
pub neither : (a b : Bool) → ((a || b) ≡ false) ↔ ((a ≡ false) × (b ≡ false))
neither true b = (λ h. absurd (true≢false h), λ p. absurd (true≢false p.0))
neither false b = (λ h. (refl, h), λ p. p.1)

-- a count that is refused where it is 0 or over 65,535 (rows 13 and 16)
pub count-accepted : (count : ℕ) (r : Refusal)
    → (refuse_if (eqb count 0 || ltb 65535 count) r ≡ Accepted) ↔ ((0 < count) × (count ≤ 65535))
count-accepted count r = (
  λ h.
      let g = (neither _ _).0 ((refuse_if-accepted _ _).0 h) in
      let some = eqb-false count 0 g.0 in
      (omega arith, ltb-false 65535 count g.1),
  λ p.
      (refuse_if-accepted _ _).1
      ((neither _ _).1 (ne_eqb count 0 (λ e. omega (arith, p.0)), le-ltb 65535 count p.1)),
)

pub segment-count-accepted : (segments : ℕ) → (segment_count_fault segments ≡ Accepted) ↔ ((0 < segments) × (segments ≤ 65535))
unfolding segment_count_fault
segment-count-accepted segments = count-accepted segments _

pub pool-count-accepted : (count wanted : ℕ) → (pool_count_fault count wanted ≡ Accepted) ↔ (count ≡ wanted)
unfolding pool_count_fault
pool-count-accepted count wanted = refuse_unequal-accepted count wanted _
