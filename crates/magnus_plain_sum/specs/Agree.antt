-- When the samples of a step agree (01, demand 3): they have one pattern, that is the same row starts and columns, and
-- at each place values that are numerically equal. The weights of two samples agree where they are numerically equal
-- at each place. proofs/Agree.antt has what follows for the products. Assumes nothing.
use Rattle.std.specs.Prelude.{◌≡◌, Bool, true, false, ◌&&◌, List, [], ◌∷◌, ℕ, T, get_or, Float}
use Rattle.std.specs.Float.{nan, Format}
use Rattle.std.specs.Float.Ieee.{fits, eq}
use Rattle.arithmetic.specs.SameList.{SameList}

-- whether x and y have as many places and are numerically equal at each: -0 equals +0, and a NaN equals nothing
unfoldable pub agree : List Float → List Float → Bool
unfolding eq
agree [] [] = true
agree [] (y ∷ ys) = false
agree (x ∷ xs) [] = false
agree (x ∷ xs) (y ∷ ys) = eq x y && agree xs ys

-- two samples that agree
pub record SamplesAgree (starts1 cols1 : List ℕ) (vals1 : List Float) (starts2 cols2 : List ℕ) (vals2 : List Float)
    : Type 0 where
  pub starts : starts1 ≡ starts2
  pub cols : cols1 ≡ cols2
  pub vals : T (agree vals1 vals2)

-- x holds values of the format, as a list of such numbers does (past the end it reads nan, which is one)
abbrev pub OfFormat : Format → List Float → Type 0
OfFormat f x = (i : ℕ) → T (fits f (get_or x i nan))

-- The products P1 and P2 with two samples agree: they take vectors that are equal up to the sign of a zero to vectors
-- that are, and those hold values of the format.
pub record ProductsAgree (f : Format) (P1 P2 : List Float → List Float) : Type 0 where
  pub first : {x y : List Float} → SameList x y → SameList (P1 x) (P1 y)
  pub both : {x y : List Float} → SameList x y → SameList (P1 x) (P2 y)
  pub of_format : (x : List Float) → OfFormat f (P1 x)
