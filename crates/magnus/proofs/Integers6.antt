-- Order 6 over the integers: what is shown of it over any commutative ring is shown of something, with a constant that
-- is -20, and at a point that is computed. Assumes nothing.
use mathlib.Core.Path.{◌≡◌, refl, ap, ◌∙◌}
use mathlib.Core.List.{List, [], ◌∷◌}
use Prim.Native.Nat.{ℕ, zero, suc}
use native.Mathlib.Omega.{arith}
use lib.IntN.{ℤ, pos, negsuc, neg_ℤ, ◌+ℤ◌, ◌*ℤ◌, zero-*ℤ, suc_ℤ-*ℤ}
use Rattle.arithmetic.specs.Vector.{tabulate}
use Rattle.arithmetic.specs.Product.{sum_to, entries, row_sum, row_product}
use Rattle.magnus.specs.Operators.{Operator}
use Rattle.magnus.specs.OperatorArithmetic.{operators, on_vectors}
use Rattle.magnus.specs.Omega6.{Constants6, b1, b2, second_difference, b3, c1, two_b3_plus_c1, two_b3_plus_c1_of_b1}
use Rattle.magnus.specs.Omega6.{c2, lop, rop, omega6}
use Rattle.magnus.specs.Published.{times, commutator, order6}
use Rattle.magnus.proofs.Linear.{row-products-as-published6}
use Rattle.magnus.proofs.Integers.{integers, integers-ring, neg-mul, L1, L2, two-columns}

-- a product with a natural number is a sum
times-is : (m : ℕ) (x : ℤ) → pos m *ℤ x ≡ times integers m x
unfolding sum_to
times-is zero x = zero-*ℤ x
times-is (suc m) x = suc_ℤ-*ℤ (pos m) x ∙ ap (λ t. t +ℤ x) (times-is m x)

minus-twenty-mul : (x : ℤ) → negsuc 19 *ℤ x ≡ neg_ℤ (times integers 20 x)
minus-twenty-mul x = neg-mul (pos 20) x ∙ ap neg_ℤ (times-is 20 x)

-- a third product, and whole numbers for the other constants (the theorem asks nothing of them)
abbrev L3 : Operator integers 2
L3 = row_product integers 2 (0 ∷ 2 ∷ 2 ∷ []) (0 ∷ 1 ∷ []) (pos 1 ∷ pos 2 ∷ [])

abbrev constants : Constants6 ℤ
constants = record {
  sqrt15_over3 = pos 3;
  ten_over3 = pos 2;
  one_over12 = pos 5;
  one_over60 = pos 7;
  one_over240 = pos 11;
  minus_twenty = negsuc 19;
}

abbrev exponent : Operator integers 2
exponent = omega6 (on_vectors integers 2) constants (pos 2) L1 L2 L3

open operators integers 2 use { -◌ as minus}

abbrev published : Operator integers 2
published = order6 integers 2 constants (pos 2) (minus L1) (minus L2) (minus L3)

-- at (1, 2) Ω is (-1877612, 1174310)
point : let v = pos 1 ∷ pos 2 ∷ [] in
    let r = negsuc 1877611 ∷ pos 1174310 ∷ [] in
    (exponent v ≡ r) × (published v ≡ r)
unfolding omega6 lop rop c2 two_b3_plus_c1_of_b1 two_b3_plus_c1 c1 b3 second_difference b2 b1 order6 commutator tabulate row_sum entries sum_to
point = (refl, refl)

as-published : (v : List ℤ) → exponent v ≡ published v
as-published =
    let inside = two-columns 0 1 (omega arith) (omega arith) in
    row-products-as-published6 integers-ring 2 constants (pos 2) _ _ _ _ _ _ _ _ _ inside inside minus-twenty-mul
