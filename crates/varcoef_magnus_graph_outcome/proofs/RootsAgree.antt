-- Roots of weights that agree: the square root respects equality up to the sign of a zero. Assumes nothing.
use mathlib.Core.Path.{◌≡◌, refl, sym, ap, ◌∙◌, subst}
use mathlib.Core.Logic.{inl, inr}
use mathlib.Core.List.{List, [], ◌∷◌, map}
use Prim.Native.Nat.{ℕ, zero, suc}
use lib.ListN.{get_or, length-map}
use lib.Ieee.{Float, nan, inf, fin, Format}
use Rattle.rounding.specs.SignOfZero.{Zero, Same}
use Rattle.rounding.proofs.SignOfZero.{same-is}
use Rattle.rounding.proofs.Same.{same-equal}
use Rattle.arithmetic.specs.SameList.{SameList}
use Rattle.ieee_square_root.specs.SquareRoot.{square_root}

-- a zero is its own root
zero-root : (f : Format) (x : Float) → Zero x → Zero (square_root f x)
unfolding square_root
zero-root f nan z = absurd z
zero-root f (inf s) z = absurd z
zero-root f (fin s zero e) z = tt
zero-root f (fin s (suc m) e) z = absurd z

pub root-same : (f : Format) {x y : Float} → Same x y → Same (square_root f x) (square_root f y)
root-same f {x} {y} r = elim (same-is.0 r) [
  | inl p ↦ same-equal (ap (square_root f) p)
  | inr z ↦ same-is.1 (inr (zero-root f x z.0, zero-root f y z.1))
]

-- past the end both lists read nan, whose root is nan
root-at : (f : Format) (x : List Float) (i : ℕ) → get_or (map (square_root f) x) i nan ≡ square_root f (get_or x i nan)
unfolding square_root
root-at f [] i = refl
root-at f (x ∷ xs) zero = refl
root-at f (x ∷ xs) (suc i) = root-at f xs i

pub roots-same-list : (f : Format) {x y : List Float} → SameList x y → SameList (map (square_root f) x) (map (square_root f) y)
roots-same-list f {x} {y} r = record {
  lengths = length-map x (square_root f) ∙ r.lengths ∙ sym (length-map y (square_root f));
  places = λ i. subst (λ (a : Float). Same a (get_or (map (square_root f) y) i nan)) (sym (root-at f x i))
      (subst (λ (b : Float). Same (square_root f (get_or x i nan)) b) (sym (root-at f y i)) (root-same f (r.places i)));
}
