-- `graph_traj_lists::first_not_finite` meets its contract: the place that the search finds is the first, and where it finds none there is none.
use Rattle.std.proofs.Common.{arith, rules, length, ◌≡◌, ◌<◌, ℕ, not, true, false, List, Option, Some, None}
use Rattle.std.specs.Option.{MatchOption}
use Rattle.std.specs.List.{AllWithin, HoldsAt}
use Rattle.std.proofs.lemmas.Iterator.{IsFirst-from_position, YieldsList-from_slice}
use lib.Ieee.{Float, nan}
use lib.Ieee.Scale.{finite}
use Rattle.graph_checks.specs.First.{find_first}
use Rattle.graph_checks.specs.PatternChecks.{not_finite_at}
use Rattle.graph_checks.proofs.First.{find_first-some, find_first-none}
use Rattle.graph_traj_lists.proofs.first_not_finite.Goals as goal

position-is : (xs : List Float) (r : Option ℕ)
    → MatchOption r (AllWithin (λ x. not (finite x) ≡ false) xs 0 (length xs))
    (λ i. (i < length xs) × HoldsAt (λ x. not (finite x) ≡ true) xs i × AllWithin (λ x. not (finite x) ≡ false) xs 0 i)
    → r ≡ find_first (not_finite_at xs) (length xs)
position-is xs None h =
    find_first-none (record { within = omega arith; none = λ j l. h j nan (omega arith) l }) (omega arith)
position-is xs (Some i) h =
    find_first-some (record { within = omega (arith, h.0); none = λ j l. h.2 j nan (omega arith) l }) h.0 (h.1 nan)

pub returns : goal.returns
returns c =
    let values = c.args.values.now in
    position-is values c.position.result
    (IsFirst-from_position _ _ c.position.result (λ (x : Float). not (finite x) ≡ true) (λ (x : Float). not (finite x) ≡ false)
    c.position.ensures.ran
    (YieldsList-from_slice values c.iter.ensures.rest)
    (λ x q called. search rules)
    (λ x q called. search rules))
