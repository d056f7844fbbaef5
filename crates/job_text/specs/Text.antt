-- What the job program prints (01, "The job program"). A text is the list of its bytes, in ASCII. Assumes nothing.
use Rattle.std.specs.Prelude.{List, [], ◌∷◌, ◌++◌, ℕ, length, Float}
use Rattle.error.specs.Refusals.{count, number_of, values_of}
use Rattle.error.specs.declared.Refusal.{Refusal}
use Rattle.job_text_digits.specs.Numbers.{decimal, RealText}
use Rattle.job_text_row.specs.Spaced.{space, Spaced}

-- the byte that ends a line
abbrev pub newline : ℕ
newline = 10

-- `done `
abbrev pub done_word : List ℕ
done_word = 100 ∷ 111 ∷ 110 ∷ 101 ∷ space ∷ []

-- `refused`
abbrev pub refused_word : List ℕ
refused_word = 114 ∷ 101 ∷ 102 ∷ 117 ∷ 115 ∷ 101 ∷ 100 ∷ []

-- reals, one a line
pub data Lines : List Float → List ℕ → Type 0 where
  none : Lines [] []
  line : {x : Float} {xs : List Float} {t u : List ℕ} → RealText x t → Lines xs u → Lines (x ∷ xs) (t ++ (newline ∷ u))

-- an accepted job: `done n`, then one value a line
pub data DoneText (values : List Float) : List ℕ → Type 0 where
  done : {u : List ℕ} → Lines values u → DoneText values (done_word ++ (decimal (length values) ++ (newline ∷ u)))

-- a refusal: `refused`, its number and its values, on one line
pub data RefusedText (refusal : Refusal) : List ℕ → Type 0 where
  refused : {u : List ℕ}
      → Spaced (count (number_of refusal) ∷ values_of refusal) u
      → RefusedText refusal (refused_word ++ (u ++ (newline ∷ [])))
