-- A vector is the list of its places' values. Its laws stand in proofs/Tabulate.antt.
use Rattle.std.specs.Prelude.{List, [], ◌∷◌, ◌++◌, ℕ, zero, suc}

-- f 0, f 1, .., f (n - 1): the vector of n places with f i at place i
unfoldable pub tabulate : {A : Type 0} → (ℕ → A) → ℕ → List A
tabulate f zero = []
tabulate f (suc n) = tabulate f n ++ (f n ∷ [])
