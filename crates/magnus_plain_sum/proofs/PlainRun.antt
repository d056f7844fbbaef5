-- Demand 3 for whole runs, one claim about the list of steps, however long: where each step is its plain sum up to the sign of a
-- zero, the run is the plain run up to the sign of a zero. The plain sum may start from a signal that differs in the signs of
-- zeros, so that step follows step. Assumes nothing.
use mathlib.Core.Bool.{Bool}
use mathlib.Core.List.{List, [], ◌∷◌}
use lib.Dec.{T}
use lib.Ieee.{Float}
use Rattle.arithmetic.specs.SameList.{SameList}
use Rattle.magnus_plain_sum.specs.Formed.{FormedOperator}
use Rattle.magnus_plain_sum.specs.Run.{run_along, every_step, formed_along}
use Rattle.magnus_plain_sum.proofs.Formed.{and_is}

module _ {S : Type 0} (step : S → FormedOperator) (plain : S → List Float → List Float) (agrees : S → Bool)
    (one : (s : S) (v v' : List Float) → T (agrees s) → SameList v v' → T ((step s).formed v)
    → SameList ((step s).apply v) (plain s v')) where
  pub plain-run : (steps : List S) {v v' : List Float}
      → SameList v v'
      → T (every_step agrees steps)
      → T (formed_along step steps v)
      → SameList (run_along (λ s. (step s).apply) steps v) (run_along plain steps v')
  unfolding run_along every_step formed_along
  plain-run [] same agreed formed = same
  plain-run (s ∷ ss) same agreed formed =
      let a = (simp and_is at agreed) in
      let f = (simp and_is at formed) in
      plain-run ss (one s _ _ a.0 same f.0) a.1 f.1
