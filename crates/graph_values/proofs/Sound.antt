-- What the check of the values accepts: exactly finite values. Assumes nothing.
use mathlib.Core.Path.{◌≡◌, ap}
use mathlib.Core.Logic.{◌↔◌}
use mathlib.Core.Bool.{true, not}
use mathlib.Core.List.{List}
use Prim.Native.Nat.{ℕ, ◌<◌}
use lib.ListN.{length, get_or}
use lib.Ieee.{Float, nan}
use lib.Ieee.Scale.{finite}
use borrow.Author.Tests.{not-false}
use Rattle.error.specs.Answer.{Accepted}
use Rattle.graph_shape.proofs.First.{refuse_first-accepted}
use Rattle.graph_values.specs.ValueChecks.{value_fault}

pub values-accepted : (vals : List Float)
    → (value_fault vals ≡ Accepted) ↔ ((k : ℕ) → k < length vals → finite (get_or vals k nan) ≡ true)
unfolding value_fault
values-accepted vals = (
  λ h k l. not-false _ ((refuse_first-accepted _ _ _).0 h k l),
  λ h. (refuse_first-accepted _ _ _).1 (λ k l. ap not (h k l)),
)
