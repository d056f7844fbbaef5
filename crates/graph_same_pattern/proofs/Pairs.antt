-- Two lists of one length are equal where the two of each pair are. Assumes nothing.
use mathlib.Core.Path.{◌≡◌, refl, ap, ◌∙◌}
use mathlib.Core.Bool.{Bool, ◌&&◌, and-true}
use mathlib.Core.List.{List, [], ◌∷◌, ◌++◌}
use native.Mathlib.Omega.{arith}
use lib.ListN.{length}
use Rattle.std.specs.Cmp.Lexicographic.{pointwise}
use Rattle.std.specs.List.{zip, list_all}
use Rattle.std.proofs.lemmas.List.Folds.{list_all-append}

module _ {A : Type 0} (E : A → A → Bool) where
  -- whether the two of a pair are equal
  abbrev pub both : A × A → Bool
  both pair = E pair.0 pair.1

  -- of one pair more
  pub pairs-next : (pairs : List (A × A)) (pair : A × A) → list_all both (pairs ++ (pair ∷ [])) ≡ (list_all both pairs && both pair)
  pairs-next pairs pair =
      list_all-append both pairs (pair ∷ []) ∙ ap (λ (b : Bool). list_all both pairs && b) (and-true (both pair))

  -- of all pairs
  pub pairs-all : (xs ys : List A) → length xs ≡ length ys → list_all both (zip xs ys) ≡ pointwise E xs ys
  pairs-all [] [] e = refl
  pairs-all [] (y ∷ ys) e = absurd (omega arith)
  pairs-all (x ∷ xs) [] e = absurd (omega arith)
  pairs-all (x ∷ xs) (y ∷ ys) e = ap (λ (b : Bool). E x y && b) (pairs-all xs ys (omega arith))
