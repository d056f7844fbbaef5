-- Vectors that lie in one work slice. A vector of n places is found by the index of its first: its value is `part` of
-- the slice, and writing it is `put`. What a write leaves of the other vectors is said in proofs/Parts.antt.
use Rattle.std.specs.Prelude.{◌≡◌, ◌↔◌, List, ℕ, ◌+◌, ◌-◌, ◌≤◌, ◌<◌, take, drop, Float}
use Rattle.std.proofs.Math.Decide.{dec_le}
use Rattle.std.proofs.Common.{arith}
use Rattle.std.proofs.lemmas.List.Edits.{sets}
use Rattle.std.specs.Float.{binary64}
use Rattle.arithmetic.specs.Vector.{tabulate}
use Rattle.arithmetic.specs.Arithmetic.{ieee, at, vectors}

-- The n places from index a and the n places from index b have none in common (`apart-is`): a and b are n or more from
-- each other. The differences stop at 0, so that one of the two is the distance and the other 0.
abbrev pub Apart : ℕ → ℕ → ℕ → Type 0
Apart n a b = n ≤ (a - b) + (b - a)

pub apart-is : (n a b : ℕ) → Apart n a b ↔ ((i j : ℕ) → i < n → j < n → a + i ≡ b + j → ⊥)
apart-is n a b = (
  λ h i j k l e. omega arith,
  λ h. elim (dec_le n ((a - b) + (b - a))) [
    | yes l ↦ l
    | no l ↦ absurd (h (b - a) (a - b) (omega arith) (omega arith) (omega arith))
  ],
)

module _ {A : Type 0} where
  -- the n elements of w from index at
  abbrev pub part : ℕ → ℕ → List A → List A
  part at n w = take n (drop at w)

  -- w with v written over it from index at
  unfoldable pub put : ℕ → List A → List A → List A
  put at v w = sets w at v

-- n times +0
abbrev pub zeros : ℕ → List Float
zeros n = (vectors (ieee binary64) n).zero

-- h of the elements of two vectors of n places, place by place
abbrev pub combined : (Float → Float → Float) → ℕ → List Float → List Float → List Float
combined h n x y = tabulate (λ i. h (at (ieee binary64) x i) (at (ieee binary64) y i)) n

-- each call of a closure, of which `post` tells, gives what h gives
abbrev pub Computes : (Float → Float → Float → Type 0) → (Float → Float → Float) → Type 0
Computes post h = (a b r : Float) → post a b r → r ≡ h a b
