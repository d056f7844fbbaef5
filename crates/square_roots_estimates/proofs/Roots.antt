-- A vector of square roots, as a loop writes it. Assumes nothing.
use mathlib.Core.Path.{◌≡◌, sym, ◌∙◌, subst}
use mathlib.Core.List.{List, map}
use Prim.Native.Nat.{ℕ}
use lib.ListN.{length, get_or, length-map, get_or-map}
use lib.Ieee.{Float, binary64, nan}
use Rattle.arithmetic.specs.Vector.{tabulate}
use Rattle.arithmetic.proofs.Tabulate.{tabulate-same, tabulate-elements}
use Rattle.ieee_square_root.specs.SquareRoot.{square_root}

-- the roots of a list's elements, one by one
pub roots-of : (a : List Float) {n : ℕ} → length a ≡ n → tabulate (λ i. square_root binary64 (get_or a i nan)) n ≡ map (square_root binary64) a
unfolding square_root
roots-of a {n} size =
    let count : length (map (square_root binary64) a) ≡ n = length-map a (square_root binary64) ∙ size in
    tabulate-same _ _ n (λ i h. sym (get_or-map (square_root binary64) a i nan))
    ∙ subst (λ (k : ℕ). tabulate (λ i. get_or (map (square_root binary64) a) i nan) k ≡ map (square_root binary64) a) count
    (tabulate-elements (map (square_root binary64) a) nan)
