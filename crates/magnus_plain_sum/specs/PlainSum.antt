-- The plain sum of demand 3 (01), over any arithmetic. Assumes nothing.
use Rattle.std.specs.Prelude.{List, ℕ, zero, suc}
use Rattle.arithmetic.specs.Arithmetic.{Arithmetic, vectors, scaled}
use Rattle.magnus.specs.Operators.{Operator as Operators}

module _ {K : Type 0} (A : Arithmetic K) (n : ℕ) where
  open vectors A n use {◌+◌ as ◌⊕◌, -◌ as ⊖◌}

  infixl 60 ◌⊕◌
  infixr 65 ◌·◌
  infix 80 ⊖◌
  -- s times x, at each place
  abbrev ◌·◌ : K → List K → List K
  ◌·◌ = scaled A n

  abbrev Operator : Type 0
  Operator = Operators A n

  -- The terms of the plain sum (01, demand 3): u 0 is the signal, u (k + 1) is τ · (-(L (u k))) at each place.
  unfoldable pub plain_term : K → Operator → ℕ → Operator
  plain_term τ P zero v = v
  plain_term τ P (suc k) v = τ · ⊖ P (plain_term τ P k v)

  -- The plain sum of degree d (01, demand 3): u 0 + c 1 · u 1 + .. + c d · u d, added left to right. It has one sample and no commutator.
  unfoldable pub plain_sum : (ℕ → K) → ℕ → K → Operator → Operator
  plain_sum c zero τ P v = v
  plain_sum c (suc d) τ P v = plain_sum c d τ P v ⊕ c (suc d) · plain_term τ P (suc d) v
