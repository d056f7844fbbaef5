-- The arithmetic in which a formula in operators is read: operators with their sums, differences and compositions, and
-- numbers to multiply them by. The first instance are the operators on vectors of n places; the crate magnus_plain_sum has
-- another.
use Rattle.std.specs.Prelude.{ℕ}
use Rattle.arithmetic.specs.Arithmetic.{Arithmetic, vectors, scaled}
use Rattle.magnus.specs.Operators.{Operator}

-- numbers of type K, operators of type O, and a number times an operator
pub record OperatorArithmetic (K O : Type 0) : Type 0 where
  pub numbers : Arithmetic K
  pub operators : Arithmetic O
  pub scale : K → O → O

-- operators on vectors of n places: (X + Y) v is X v + Y v, the difference and the negative likewise; the product XY is
-- the composition, (XY) v = X (Y v)
abbrev pub operators : {K : Type 0} (A : Arithmetic K) (n : ℕ) → Arithmetic (Operator A n)
operators A n = record {
  zero = λ v. (vectors A n).zero;
  past = λ v. (vectors A n).past;
  ◌+◌ = λ X Y v. (vectors A n).◌+◌ (X v) (Y v);
  ◌-◌ = λ X Y v. (vectors A n).◌-◌ (X v) (Y v);
  ◌*◌ = λ X Y v. X (Y v);
  -◌ = λ X v. (vectors A n).-◌ (X v);
}

-- the same with their multiples: (s X) v is s times X v
abbrev pub on_vectors : {K : Type 0} (A : Arithmetic K) (n : ℕ) → OperatorArithmetic K (Operator A n)
on_vectors A n = record { numbers = A; operators = operators A n; scale = λ s X v. scaled A n s (X v) }
