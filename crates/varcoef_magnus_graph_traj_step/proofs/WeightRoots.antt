-- The images of a vector's elements, written in two halves. Assumes nothing.
use mathlib.Core.Path.{◌≡◌, ap, ap₂, ◌∙◌}
use mathlib.Core.List.{List, map}
use Prim.Native.Nat.{ℕ, ◌+◌, ◌*◌, ◌≤◌}
use native.Mathlib.Omega.{arith}
use lib.ListN.{length}
use lib.Ieee.{Float}
use Rattle.scratch.specs.Parts.{part, put}
use Rattle.scratch.proofs.Parts.{part-of-put-before}
use Rattle.square_roots.proofs.Blocks.{block-behind}

module _ (f : Float → Float) (n : ℕ) (w : List Float) (room : 10 * n ≤ length w) where
  -- the images of the vector at 4n, first of one half and then of the other, which the first write leaves as it was
  pub in_halves : (w₁ w₂ : List Float)
      → w₁ ≡ put (8 * n) (map f (part (4 * n) n w)) w
      → w₂ ≡ put (9 * n) (map f (part (5 * n) n w₁)) w₁
      → w₂ ≡ put (8 * n) (map f (part (4 * n) (2 * n) w)) w
  in_halves w₁ w₂ e₁ e₂ =
      let first = map f (part (4 * n) n w) in
      let same : part (5 * n) n w₁ ≡ part (5 * n) n w =
      ap (part (5 * n) n) e₁ ∙ part-of-put-before (8 * n) first w (5 * n) n (omega arith) in
      let source : 5 * n ≡ 4 * n + n = omega arith in
      let target : 9 * n ≡ 8 * n + n = omega arith in
      let twice : n + n ≡ 2 * n = omega arith in
      e₂
      ∙ ap₂ (λ (x y : List Float). put (9 * n) (map f x) y) same e₁
      ∙ ap₂ (λ (s t : ℕ). put t (map f (part s n w)) (put (8 * n) first w)) source target
      ∙ block-behind f (4 * n) (8 * n) n n w w (omega arith)
      ∙ ap (λ (k : ℕ). put (8 * n) (map f (part (4 * n) k w)) w) twice
