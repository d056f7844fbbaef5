-- A run (01, part 10, and demand 3's "Plain run"): a list of steps, the first first, each of which takes the held signal to its
-- image. What a step is, is left open. proofs/PlainRun.antt has demand 3 for runs. Assumes nothing.
use Rattle.std.specs.Prelude.{Bool, true, ◌&&◌, List, [], ◌∷◌, Float}
use Rattle.magnus_plain_sum.specs.Formed.{FormedOperator}

module _ {S : Type 0} where
  -- the signal that is held after the steps, where v is held before them
  unfoldable pub run_along : {X : Type 0} → (S → X → X) → List S → X → X
  run_along image [] v = v
  run_along image (s ∷ ss) v = run_along image ss (image s v)

  -- whether p holds of each step
  unfoldable pub every_step : (S → Bool) → List S → Bool
  every_step p [] = true
  every_step p (s ∷ ss) = p s && every_step p ss

  -- whether every number that the steps form is finite, each of the signal that is held before it
  unfoldable pub formed_along : (S → FormedOperator) → List S → List Float → Bool
  formed_along step [] v = true
  formed_along step (s ∷ ss) v = (step s).formed v && formed_along step ss ((step s).apply v)
