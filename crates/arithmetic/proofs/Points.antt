-- Points that document 01 asks of the row product (01, "Points to meet"), computed from its definition. Assumes nothing.
use mathlib.Core.Path.{◌≡◌, refl, ap}
use mathlib.Core.List.{List, [], ◌∷◌}
use lib.Ieee
use lib.Ieee.{Float, Format, binary64, of_bits}
use Rattle.rounding.specs.SignOfZero.{+0}
use Rattle.arithmetic.specs.Vector.{tabulate}
use Rattle.arithmetic.specs.Arithmetic.{ieee, ieee-zero, vectors}
use Rattle.arithmetic.specs.Product.{sum_to, entries, row_sum, row_product}

-- n 1, starts 2 2, columns 0 0: the product is 0, whatever the values and the signal are
pub row-without-entries : (f : Format) (vals x : List Float)
    → row_product (ieee f) 1 (2 ∷ 2 ∷ []) (0 ∷ 0 ∷ []) vals x ≡ +0 ∷ []
unfolding tabulate row_sum entries sum_to
row-without-entries f vals x = ap (λ z. z ∷ []) (ieee-zero f)

abbrev pub one : Float
one = of_bits binary64 0x3FF0_0000_0000_0000

-- the products with diag(1, 0) and with the matrix that swaps two nodes
abbrev pub L1 : List Float → List Float
L1 = row_product (ieee binary64) 2 (0 ∷ 1 ∷ 2 ∷ []) (0 ∷ 1 ∷ []) (one ∷ +0 ∷ [])

abbrev pub L2 : List Float → List Float
L2 = row_product (ieee binary64) 2 (0 ∷ 1 ∷ 2 ∷ []) (1 ∷ 0 ∷ []) (one ∷ one ∷ [])

open vectors (ieee binary64) 2 use {◌-◌ as ◌⊖◌}

infixl 60 ◌⊖◌
-- L2 L1 v - L1 L2 v is (0, 1) at v = (1, 0)
pub commutator : let v = one ∷ +0 ∷ [] in L2 (L1 v) ⊖ L1 (L2 v) ≡ +0 ∷ one ∷ []
unfolding tabulate row_sum entries sum_to of_bits Ieee.add Ieee.sub Ieee.mul Ieee.neg
commutator = refl
