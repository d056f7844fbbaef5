-- How a walk over the places forms the sums of order 6 (specs/Omega6Parts.antt), and their lengths. For any arithmetic.
-- Assumes nothing.
use mathlib.Core.Path.{◌≡◌}
use mathlib.Core.List.{List}
use Prim.Native.Nat.{ℕ}
use lib.ListN.{length}
use Rattle.arithmetic.specs.Vector.{tabulate}
use Rattle.arithmetic.specs.Arithmetic.{Arithmetic, at}
use Rattle.arithmetic.proofs.Tabulate.{length-tabulate, tabulate-same}
use Rattle.arithmetic.proofs.Product.{at-tabulate}
use Rattle.magnus.specs.Omega6.{Constants6}
use Rattle.magnus6_graph_parts.specs.Omega6Parts.{second_difference_of, scaled_second_difference, twice_first_plus, c2_sum}

module _ {K : Type 0} (A : Arithmetic K) where
  open A use {◌+◌, ◌-◌, ◌*◌, -◌}

  infixl 60 ◌+◌ ◌-◌
  infixl 70 ◌*◌
  infix 80 -◌
  -- each sum of numbers, at place i of its vectors, and the walk over the places that writes it
  abbrev pub second_difference_at : K → List K → List K → List K → ℕ → K
  second_difference_at s a1 a2 a3 i = second_difference_of A s (at A a1 i) (at A a2 i) (at A a3 i)

  pub second-difference-walk : (n : ℕ) (s : K) (a1 a2 a3 : List K)
      → tabulate (second_difference_at s a1 a2 a3) n ≡ scaled_second_difference A n s a1 a2 a3
  unfolding scaled_second_difference
  second-difference-walk n s a1 a2 a3 = tabulate-same _ _ n (λ i h. simp (at-tabulate A))

  abbrev pub twice_first_plus_of : K → K → K
  twice_first_plus_of b3x c1x = b3x + b3x + c1x

  abbrev pub twice_first_plus_at : List K → List K → ℕ → K
  twice_first_plus_at b3x c1x i = twice_first_plus_of (at A b3x i) (at A c1x i)

  pub twice-first-plus-walk : (n : ℕ) (b3x c1x : List K)
      → tabulate (twice_first_plus_at b3x c1x) n ≡ twice_first_plus A n b3x c1x
  unfolding twice_first_plus
  twice-first-plus-walk n b3x c1x = tabulate-same _ _ n (λ i h. simp (at-tabulate A))

  module _ (k : Constants6 K) (τ : K) where
    open k use {sqrt15_over3, ten_over3, one_over60}

    abbrev pub c2_of : K → K → K → K → K → K → K → K
    c2_of p2w p1y p2y p3y p2b2y p1p2y p3p2y =
        (- one_over60) * ((- τ) * p2w
        - (second_difference_of A ((τ + τ) * ten_over3) p1y p2y p3y
        + ((- τ) * p2b2y - (τ * sqrt15_over3 * - τ) * (p1p2y - p3p2y))))

    abbrev pub c2_sum_at : List K → List K → List K → List K → List K → List K → List K → ℕ → K
    c2_sum_at p2w p1y p2y p3y p2b2y p1p2y p3p2y i =
        c2_of (at A p2w i) (at A p1y i) (at A p2y i) (at A p3y i) (at A p2b2y i) (at A p1p2y i) (at A p3p2y i)

    pub c2-sum-walk : (n : ℕ) (p2w p1y p2y p3y p2b2y p1p2y p3p2y : List K)
        → tabulate (c2_sum_at p2w p1y p2y p3y p2b2y p1p2y p3p2y) n ≡ c2_sum A n k τ p2w p1y p2y p3y p2b2y p1p2y p3p2y
    unfolding c2_sum scaled_second_difference
    c2-sum-walk n p2w p1y p2y p3y p2b2y p1p2y p3p2y = tabulate-same _ _ n (λ i h. simp (at-tabulate A))

  pub length-second-difference : (n : ℕ) (s : K) (a1 a2 a3 : List K) → length (scaled_second_difference A n s a1 a2 a3) ≡ n
  unfolding scaled_second_difference
  length-second-difference n s a1 a2 a3 = length-tabulate _ n

  pub length-twice-first-plus : (n : ℕ) (b3x c1x : List K) → length (twice_first_plus A n b3x c1x) ≡ n
  unfolding twice_first_plus
  length-twice-first-plus n b3x c1x = length-tabulate _ n

  pub length-c2-sum : (n : ℕ) (k : Constants6 K) (τ : K) (p2w p1y p2y p3y p2b2y p1p2y p3p2y : List K)
      → length (c2_sum A n k τ p2w p1y p2y p3y p2b2y p1p2y p3p2y) ≡ n
  unfolding c2_sum
  length-c2-sum n k τ p2w p1y p2y p3y p2b2y p1p2y p3p2y = length-tabulate _ n
