-- Finite results. A sum, a difference or a product is finite only where its operands are, so a finite answer shows that
-- the numbers it was formed from were finite. Negation keeps finiteness, and so does a zero's change of sign.
-- Assumes nothing.
use mathlib.Core.Path.{subst}
use mathlib.Core.Bool.{Bool, true, false, beq, cond}
use Prim.Native.Nat.{zero, suc}
use lib.Dec.{T, eqb}
use lib.Ieee.{Float, nan, inf, fin, Format, unlike, neg, add, sub, mul}
use lib.Ieee.Scale.{finite}
use Rattle.rounding.specs.SignOfZero.{plus_zero, Same}

-- ---- negation

pub neg-finite : (x : Float) → T (finite x) → T (finite (neg x))
unfolding neg
neg-finite nan t = t
neg-finite (inf s) t = t
neg-finite (fin s m e) t = tt

pub finite-of-neg : (x : Float) → T (finite (neg x)) → T (finite x)
unfolding neg
finite-of-neg nan t = t
finite-of-neg (inf s) t = t
finite-of-neg (fin s m e) t = tt

-- ---- sum, difference, product

neither-finite : (b : Bool) (x y : Float) → (T (finite x) → ⊥) → (T (finite y) → ⊥) → T (finite (cond b x y)) → ⊥
neither-finite true x y p q t = p t
neither-finite false x y p q t = q t

pub finite-of-add : (f : Format) (x y : Float) → T (finite (add f x y)) → T (finite x) × T (finite y)
unfolding add
finite-of-add f nan y t = absurd t
finite-of-add f (inf s) nan t = absurd t
finite-of-add f (inf s) (inf u) t = absurd (neither-finite (beq s u) (inf s) nan (λ z. z) (λ z. z) t)
finite-of-add f (inf s) (fin u n d) t = absurd t
finite-of-add f (fin s m e) nan t = absurd t
finite-of-add f (fin s m e) (inf u) t = absurd t
finite-of-add f (fin s m e) (fin u n d) t = (tt, tt)

pub finite-of-sub : (f : Format) (x y : Float) → T (finite (sub f x y)) → T (finite x) × T (finite y)
unfolding sub
finite-of-sub f x y t = let r = finite-of-add f x (neg y) t in (r.0, finite-of-neg y r.1)

pub finite-of-mul : (f : Format) (x y : Float) → T (finite (mul f x y)) → T (finite x) × T (finite y)
unfolding mul
finite-of-mul f nan y t = absurd t
finite-of-mul f (inf s) nan t = absurd t
finite-of-mul f (inf s) (inf u) t = absurd t
finite-of-mul f (inf s) (fin u n d) t = absurd (neither-finite (eqb n 0) nan (inf (unlike s u)) (λ z. z) (λ z. z) t)
finite-of-mul f (fin s m e) nan t = absurd t
finite-of-mul f (fin s m e) (inf u) t = absurd (neither-finite (eqb m 0) nan (inf (unlike s u)) (λ z. z) (λ z. z) t)
finite-of-mul f (fin s m e) (fin u n d) t = (tt, tt)

-- ---- values that are the same

plus_zero-finite : (x : Float) → T (finite x) → T (finite (plus_zero x))
unfolding plus_zero
plus_zero-finite nan t = t
plus_zero-finite (inf s) t = t
plus_zero-finite (fin s zero e) t = tt
plus_zero-finite (fin s (suc m) e) t = tt

finite-of-plus_zero : (x : Float) → T (finite (plus_zero x)) → T (finite x)
unfolding plus_zero
finite-of-plus_zero nan t = t
finite-of-plus_zero (inf s) t = t
finite-of-plus_zero (fin s m e) t = tt

pub same-finite : {x y : Float} → Same x y → T (finite x) → T (finite y)
same-finite {x} {y} p t = finite-of-plus_zero y (subst (λ (z : Float). T (finite z)) p.path (plus_zero-finite x t))
