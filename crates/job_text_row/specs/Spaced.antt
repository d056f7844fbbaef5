-- The number and the values of a refusal, as the job program prints them (01, "The job program"). Assumes nothing.
use Rattle.std.specs.Prelude.{List, [], ◌∷◌, ◌++◌, ℕ, Float}
use Rattle.error.specs.Refusals.{Carried, count, real}
use Rattle.job_text_digits.specs.Numbers.{decimal, RealText}

-- a value that a refusal carries: a count in decimal, a real in hexadecimal
pub data ValueText : Carried → List ℕ → Type 0 where
  of-count : {k : ℕ} → ValueText (count k) (decimal k)
  of-real : {x : Float} {t : List ℕ} → RealText x t → ValueText (real x) t

-- the byte before a number or a value
abbrev pub space : ℕ
space = 32

-- values, each after a single space
pub data Spaced : List Carried → List ℕ → Type 0 where
  none : Spaced [] []
  value : {v : Carried} {vs : List Carried} {t u : List ℕ} → ValueText v t → Spaced vs u → Spaced (v ∷ vs) (space ∷ (t ++ u))
