-- What a closure says that tests the values of two samples, or checks those of one. Assumes nothing.
use Rattle.std.specs.Prelude.{◌≡◌, ◌&&◌, Bool, Float}
use Rattle.error.specs.Checks.{refuse_if}
use Rattle.error.specs.declared.Refusal.{Refusal}
use Rattle.error.specs.Answer.{Checked}

-- each call of a closure, of which `post` tells, accepts two numbers where both are good
abbrev pub TestsBoth : (Float → Float → Bool → Type 0) → (Float → Bool) → Type 0
TestsBoth post good = (x y : Float) (r : Bool) → post x y r → r ≡ (good x && good y)

-- each call refuses a number where it is bad
abbrev pub Checks : (Float → Checked → Type 0) → (Float → Bool) → (Float → Refusal) → Type 0
Checks post bad refusal = (x : Float) (r : Checked) → post x r → r ≡ refuse_if (bad x) (refusal x)
