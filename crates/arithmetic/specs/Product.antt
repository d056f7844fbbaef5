-- The row product (01, part 1) and the signal sum (01, part 3), over any arithmetic. A matrix of n rows is given by its
-- row starts, columns and values: row i has the entries from its row start to the next.
use Rattle.std.specs.Prelude.{List, ℕ, zero as none, suc, ◌+◌ as ◌+ℕ◌, ◌-◌ as ◌-ℕ◌, get_or}
use Rattle.arithmetic.specs.Vector.{tabulate}
use Rattle.arithmetic.specs.Arithmetic.{Arithmetic, at, vectors, scaled}

module _ {K : Type 0} (A : Arithmetic K) where
  open A use {zero, ◌+◌, ◌*◌}

  infixl 60 ◌+◌
  infixl 70 ◌*◌
  -- f 0 + f 1 + .. + f (m - 1), added in that order to zero
  unfoldable pub sum_to : (ℕ → K) → ℕ → K
  sum_to f none = zero
  sum_to f (suc m) = sum_to f m + f m

  -- the sum of the entries lo, .., hi - 1 in stored order: each is its value times the signal x at its column
  unfoldable pub entries : List ℕ → List K → List K → ℕ → ℕ → K
  entries cols vals x lo hi = sum_to (λ j. at A vals (lo +ℕ j) * at A x (get_or cols (lo +ℕ j) 0)) (hi -ℕ lo)

  -- row i of the product with x
  unfoldable pub row_sum : List ℕ → List ℕ → List K → List K → ℕ → K
  row_sum starts cols vals x i = entries cols vals x (get_or starts i 0) (get_or starts (i +ℕ 1) 0)

  -- the product of a matrix of n rows with x (01, part 1)
  abbrev pub row_product : ℕ → List ℕ → List ℕ → List K → List K → List K
  row_product n starts cols vals x = tabulate (row_sum starts cols vals x) n

module _ {K : Type 0} (A : Arithmetic K) (n : ℕ) where
  open vectors A n use {◌+◌ as ◌⊕◌}

  infixl 60 ◌⊕◌
  infixr 65 ◌·◌
  abbrev ◌·◌ : K → List K → List K
  ◌·◌ = scaled A n

  -- s + alpha · v at each of n places (01, part 3)
  unfoldable pub plus_scaled : List K → K → List K → List K
  plus_scaled s alpha v = s ⊕ alpha · v
