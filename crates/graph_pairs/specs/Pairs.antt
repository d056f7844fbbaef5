-- Two vectors in one list, as pairs of the elements at each place: so that a walk over the pattern that two samples share reads
-- both samples' values side by side. The laws stand in proofs/Pairs.antt. Assumes nothing.
use Rattle.std.specs.Prelude.{List, ℕ, zero, suc, ◌+◌ as ◌+ℕ◌, ◌*◌ as ◌*ℕ◌, get_or}
use Rattle.arithmetic.specs.Vector.{tabulate}
use Rattle.arithmetic.specs.Arithmetic.{Arithmetic, at}

-- f 0, g 0, f 1, g 1, ..: what stands at each place of such a list
unfoldable pub alternate : {K : Type 0} → (ℕ → K) → (ℕ → K) → ℕ → K
alternate f g zero = f 0
alternate f g (suc zero) = g 0
alternate f g (suc (suc j)) = alternate (λ i. f (suc i)) (λ i. g (suc i)) j

-- n pairs, of f i and g i
abbrev pub pairs : {K : Type 0} → ℕ → (ℕ → K) → (ℕ → K) → List K
pairs n f g = tabulate (alternate f g) (2 *ℕ n)

module _ {K : Type 0} (A : Arithmetic K) where
  open A use {◌+◌, ◌*◌}

  -- the vector of the first elements of n pairs, and that of the second ones
  abbrev pub firsts : ℕ → List K → List K
  firsts n x = tabulate (λ i. at A x (2 *ℕ i)) n

  abbrev pub seconds : ℕ → List K → List K
  seconds n x = tabulate (λ i. at A x (2 *ℕ i +ℕ 1)) n

  infixl 60 ◌+◌
  infixl 70 ◌*◌
  -- a row's sum with entry k added: its value times the signal x at its column
  abbrev pub with_entry : List ℕ → ℕ → List K → List K → K → K
  with_entry cols k vals x sum = sum + at A vals k * at A x (get_or cols k 0)
