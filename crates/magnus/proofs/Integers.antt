-- The integers are exact numbers, so what is shown over any commutative ring is shown of something. And a point that is
-- computed over them, at which the commutator is not zero. Assumes nothing.
use mathlib.Core.Path.{◌≡◌, refl, sym, ap, ap₂, ◌∙◌}
use mathlib.Core.List.{List, [], ◌∷◌}
use Prim.Native.Nat.{ℕ, zero, suc, ◌<◌}
use native.Mathlib.Omega.{arith}
use lib.IntN.{ℤ, pos, negsuc, neg_ℤ, neg_ℤ-neg_ℤ, neg_ℤ-+ℤ, ◌+ℤ◌, +ℤ_assoc, +ℤ_comm, +ℤ_idl, +ℤ_idr, +ℤ_invr, ◌-ℤ◌}
use lib.IntN.{◌*ℤ◌, zero-*ℤ, *ℤ-zero, suc_ℤ-*ℤ, *ℤ_comm}
use Rattle.arithmetic.specs.Vector.{tabulate}
use Rattle.arithmetic.specs.Arithmetic.{Arithmetic, at}
use Rattle.arithmetic.specs.Product.{sum_to, entries, row_sum, row_product}
use Rattle.magnus.specs.Operators.{Operator, omega4}
use Rattle.magnus.specs.Ring.{Ring, Symmetric, dot}
use Rattle.magnus.specs.OperatorArithmetic.{operators}
use Rattle.magnus.specs.Published.{commutator, order4, order4_adjoint, AsPublished}
use Rattle.magnus.proofs.Linear.{ColumnsInside, row-products-as-published}

abbrev pub integers : Arithmetic ℤ
integers = record { zero = pos 0; past = pos 0; ◌+◌ = ◌+ℤ◌; ◌-◌ = ◌-ℤ◌; ◌*◌ = ◌*ℤ◌; -◌ = neg_ℤ }

-- ---- the laws of a product, by induction on its left factor
-- what holds of 0, and with a natural number of the next, and with a number of its negative, holds of every integer
module _ (P : ℤ → Type 0) (none : P (pos 0)) (next : (k : ℕ) → P (pos k) → P (pos (suc k))) where
  natural-induction : (k : ℕ) → P (pos k)
  natural-induction zero = none
  natural-induction (suc k) = next k (natural-induction k)

  integer-induction : ((k : ℤ) → P k → P (neg_ℤ k)) → (k : ℤ) → P k
  integer-induction negative (pos k) = natural-induction k
  integer-induction negative (negsuc k) = negative (pos (suc k)) (natural-induction (suc k))

pub neg-mul : (x y : ℤ) → neg_ℤ x *ℤ y ≡ neg_ℤ (x *ℤ y)
neg-mul (pos zero) y = zero-*ℤ y ∙ sym (ap neg_ℤ (zero-*ℤ y))
neg-mul (pos (suc a)) (pos b) = refl
neg-mul (pos (suc a)) (negsuc b) = sym (neg_ℤ-neg_ℤ _)
neg-mul (negsuc a) (pos b) = sym (neg_ℤ-neg_ℤ _)
neg-mul (negsuc a) (negsuc b) = refl

add_left_comm : (x y z : ℤ) → x +ℤ (y +ℤ z) ≡ y +ℤ (x +ℤ z)
add_left_comm x y z = sym (+ℤ_assoc x y z) ∙ ap (λ t. t +ℤ z) (+ℤ_comm x y) ∙ +ℤ_assoc y x z

interchange : (a b c d : ℤ) → a +ℤ b +ℤ (c +ℤ d) ≡ a +ℤ c +ℤ (b +ℤ d)
interchange a b c d = +ℤ_assoc a b (c +ℤ d) ∙ ap (λ t. a +ℤ t) (add_left_comm b c d) ∙ sym (+ℤ_assoc a c (b +ℤ d))

mul-add : (x y z : ℤ) → x *ℤ (y +ℤ z) ≡ x *ℤ y +ℤ x *ℤ z
mul-add x y z =
    integer-induction (λ k. k *ℤ (y +ℤ z) ≡ k *ℤ y +ℤ k *ℤ z)
    (zero-*ℤ (y +ℤ z) ∙ sym (ap₂ ◌+ℤ◌ (zero-*ℤ y) (zero-*ℤ z)))
    (λ k h.
    suc_ℤ-*ℤ (pos k) (y +ℤ z) ∙ ap (λ t. t +ℤ (y +ℤ z)) h ∙ interchange (pos k *ℤ y) (pos k *ℤ z) y z
    ∙ sym (ap₂ ◌+ℤ◌ (suc_ℤ-*ℤ (pos k) y) (suc_ℤ-*ℤ (pos k) z)))
    (λ k h. neg-mul k (y +ℤ z) ∙ ap neg_ℤ h ∙ neg_ℤ-+ℤ (k *ℤ y) (k *ℤ z) ∙ sym (ap₂ ◌+ℤ◌ (neg-mul k y) (neg-mul k z)))
    x

add-mul : (x y z : ℤ) → (x +ℤ y) *ℤ z ≡ x *ℤ z +ℤ y *ℤ z
add-mul x y z = *ℤ_comm (x +ℤ y) z ∙ mul-add z x y ∙ ap₂ ◌+ℤ◌ (*ℤ_comm z x) (*ℤ_comm z y)

mul_assoc : (x y z : ℤ) → x *ℤ y *ℤ z ≡ x *ℤ (y *ℤ z)
mul_assoc x y z =
    integer-induction (λ k. k *ℤ y *ℤ z ≡ k *ℤ (y *ℤ z))
    (ap (λ t. t *ℤ z) (zero-*ℤ y) ∙ zero-*ℤ z ∙ sym (zero-*ℤ (y *ℤ z)))
    (λ k h.
    ap (λ t. t *ℤ z) (suc_ℤ-*ℤ (pos k) y) ∙ add-mul (pos k *ℤ y) y z ∙ ap (λ t. t +ℤ y *ℤ z) h
    ∙ sym (suc_ℤ-*ℤ (pos k) (y *ℤ z)))
    (λ k h. ap (λ t. t *ℤ z) (neg-mul k y) ∙ neg-mul (k *ℤ y) z ∙ ap neg_ℤ h ∙ sym (neg-mul k (y *ℤ z)))
    x

pub integers-ring : Ring integers
integers-ring = record {
  add_assoc = +ℤ_assoc;
  add_comm = +ℤ_comm;
  add-zero = +ℤ_idr;
  add-neg = +ℤ_invr;
  sub-eq-add-neg = λ x y. refl;
  mul_assoc = mul_assoc;
  mul_comm = *ℤ_comm;
  mul-add = mul-add;
}

-- 1 is the factor of the forward formula, -1 that of the adjoint one
one-mul : (x : ℤ) → pos 1 *ℤ x ≡ x
one-mul x = suc_ℤ-*ℤ (pos 0) x ∙ ap (λ t. t +ℤ x) (zero-*ℤ x) ∙ +ℤ_idl x

minus-one-mul : (x : ℤ) → negsuc 0 *ℤ x ≡ neg_ℤ x
minus-one-mul x = neg-mul (pos 1) x ∙ ap neg_ℤ (one-mul x)

-- ---- a point: L1 = diag(1, 0), L2 swaps two nodes (01, "Points to meet")
abbrev pub L1 : Operator integers 2
L1 = row_product integers 2 (0 ∷ 1 ∷ 2 ∷ []) (0 ∷ 1 ∷ []) (pos 1 ∷ pos 0 ∷ [])

abbrev pub L2 : Operator integers 2
L2 = row_product integers 2 (0 ∷ 1 ∷ 2 ∷ []) (1 ∷ 0 ∷ []) (pos 1 ∷ pos 1 ∷ [])

open operators integers 2 use { -◌ as minus}

abbrev A1 : Operator integers 2
A1 = minus L1

abbrev A2 : Operator integers 2
A2 = minus L2

-- Ω of order 4 and the published exponents, with half 1, c 3 and τ 2 (the integers have no 1/2, but the theorem asks
-- nothing of half)
abbrev exponent : ℤ → Operator integers 2
exponent sign = omega4 integers 2 (negsuc 0) (pos 3) sign (pos 2) L1 L2

abbrev published : Operator integers 2 → Operator integers 2 → Operator integers 2
published = order4 integers 2 (pos 1) (pos 3) (pos 2)

abbrev published_adjoint : Operator integers 2 → Operator integers 2 → Operator integers 2
published_adjoint = order4_adjoint integers 2 (pos 1) (pos 3) (pos 2)

-- forward, and adjoint, the formula and the published one give r for v
abbrev Forward : List ℤ → List ℤ → Type 0
Forward v r = (exponent (pos 1) v ≡ r) × (published A1 A2 v ≡ r)

abbrev Adjoint : List ℤ → List ℤ → Type 0
Adjoint v r = (exponent (negsuc 0) v ≡ r) × (published_adjoint A1 A2 v ≡ r) × (published A2 A1 v ≡ r)

-- at (1, 0) the commutator [A1, A2] is (0, -1), not zero; Ω is (-2, 10) forward and (-2, -14) adjoint
abbrev v : List ℤ
v = pos 1 ∷ pos 0 ∷ []

commutator-point : commutator integers 2 A1 A2 v ≡ pos 0 ∷ negsuc 0 ∷ []
unfolding commutator tabulate row_sum entries sum_to
commutator-point = refl

point : Forward v (negsuc 1 ∷ pos 10 ∷ []) × Adjoint v (negsuc 1 ∷ negsuc 13 ∷ [])
unfolding omega4 order4 order4_adjoint commutator tabulate row_sum entries sum_to
point = ((refl, refl), (refl, refl, refl))

-- at (1, 2), where L1 L2 v is not zero either, Ω is (-30, 10) forward and (18, -14) adjoint
second-point : let w = pos 1 ∷ pos 2 ∷ [] in
    Forward w (negsuc 29 ∷ pos 10 ∷ []) × Adjoint w (pos 18 ∷ negsuc 13 ∷ [])
unfolding omega4 order4 order4_adjoint commutator tabulate row_sum entries sum_to
second-point = ((refl, refl), (refl, refl, refl))

-- ---- the theorems apply to L1 and L2: the products are linear, 1 and -1 are the factors
pub two-columns : (a b : ℕ) → a < 2 → b < 2 → ColumnsInside 2 (a ∷ b ∷ [])
two-columns a b first second zero l = first
two-columns a b first second (suc zero) l = second
two-columns a b first second (suc (suc k)) l = absurd (omega arith)

as-published : (half c τ : ℤ) → AsPublished integers 2 half c τ L1 L2
as-published half c τ =
    row-products-as-published integers-ring 2 half c τ _ _ _ _ _ _
    (two-columns 0 1 (omega arith) (omega arith)) (two-columns 1 0 (omega arith) (omega arith))

forward-as-published : exponent (pos 1) v ≡ published A1 A2 v
forward-as-published = (as-published (pos 1) (pos 3) (pos 2)).forward (pos 1) one-mul v

adjoint-as-published : exponent (negsuc 0) v ≡ published_adjoint A1 A2 v
adjoint-as-published = (as-published (pos 1) (pos 3) (pos 2)).adjoint (negsuc 0) minus-one-mul v

-- and they are symmetric
L1-symmetric : Symmetric integers 2 L1
unfolding dot tabulate row_sum entries sum_to
L1-symmetric = record { either_side = λ x y. simp (+ℤ_idl, one-mul, zero-*ℤ, *ℤ-zero) }

L2-symmetric : Symmetric integers 2 L2
unfolding dot tabulate row_sum entries sum_to
L2-symmetric = record {
  either_side = λ x y.
      simp (+ℤ_idl, one-mul)
      (+ℤ_comm (at integers x 0 *ℤ at integers y 1) (at integers x 1 *ℤ at integers y 0));
}
