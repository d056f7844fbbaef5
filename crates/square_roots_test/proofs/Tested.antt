-- The loop that tests every root of a vector, and what its answer tells. Assumes nothing.
use mathlib.Core.Path.{◌≡◌, sym, ◌∙◌}
use mathlib.Core.List.{List, map}
use Prim.Native.Nat.{ℕ, ◌^◌, ◌≤◌, ◌<◌}
use native.Mathlib.Omega.{arith}
use lib.ListN.{length, get_or, length-map, get_or-map}
use lib.Seq.{ext_get_or}
use lib.Ieee.{Float, binary64, nan}
use Rattle.ieee_square_root.specs.SquareRoot.{square_root}

-- where the sign bit of `passed` is set, the first i of ys are the square roots of the first i of xs
pub record RootsBefore (xs ys : List Float) (i passed : ℕ) : Type 0 where
  pub within : i ≤ length xs
  pub roots : 2 ^ 63 ≤ passed → (j : ℕ) → j < i → get_or ys j nan ≡ square_root binary64 (get_or xs j nan)

module _ (xs ys : List Float) where
  -- every place
  pub roots-all : {i passed : ℕ}
      → length ys ≡ length xs
      → length xs ≤ i
      → RootsBefore xs ys i passed
      → 2 ^ 63 ≤ passed
      → ys ≡ map (square_root binary64) xs
  unfolding square_root
  roots-all size last before set =
      ext_get_or nan ys (map (square_root binary64) xs) (size ∙ sym (length-map xs (square_root binary64)))
      (λ j h. before.roots set j (omega (arith, h, size, last)) ∙ sym (get_or-map (square_root binary64) xs j nan))
