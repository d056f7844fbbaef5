-- The formulas of order 4 (01, parts 5 to 7), over any arithmetic. An operator is a map of vectors of n places,
-- as the product with a sample is. Over the rounded operations of a format a formula is what the code computes, operation by operation.
use Rattle.std.specs.Prelude.{List, ℕ, zero, suc}
use Rattle.arithmetic.specs.Arithmetic.{Arithmetic, vectors, scaled}

module _ {K : Type 0} (A : Arithmetic K) (n : ℕ) where
  open A use {◌*◌}
  open vectors A n use {◌+◌ as ◌⊕◌, ◌-◌ as ◌⊖◌, ◌*◌ as ◌⊙◌}

  infixl 60 ◌⊕◌ ◌⊖◌
  infixr 65 ◌·◌
  infixl 70 ◌*◌ ◌⊙◌
  -- s times x, at each place
  abbrev ◌·◌ : K → List K → List K
  ◌·◌ = scaled A n

  abbrev pub Operator : Type 0
  Operator = List K → List K

  -- the weighted product (01, part 5): root · (P (root · v)) at each place
  unfoldable pub weighted : List K → Operator → Operator
  weighted root P v = root ⊙ P (root ⊙ v)

  -- Ωv of order 4 (01, part 6) from the products P1 and P2 with the two samples. s is the literal for √3/12, sign is 1 forward and -1
  -- adjoint.
  unfoldable pub omega4 : K → K → K → K → Operator → Operator → Operator
  omega4 minus_half s sign τ P1 P2 v =
      let a = P1 v in
      let b = P2 v in
      (minus_half * τ) · (a ⊕ b) ⊕ (sign * s * τ * τ) · (P2 a ⊖ P1 b)

  -- Wᵏ v
  unfoldable pub power : Operator → ℕ → Operator
  power W zero v = v
  power W (suc k) v = W (power W k v)

  -- v + c 1 · Wv + c 2 · W²v + .. + c d · Wᵈv, added in that order (01, part 6)
  unfoldable pub taylor : (ℕ → K) → ℕ → Operator → Operator
  taylor c zero W v = v
  taylor c (suc d) W v = taylor c d W v ⊕ c (suc d) · power W (suc d) v
