-- The vectors of a work slice as parts of that slice, lent to a call. For elements of any type. Assumes nothing.
use mathlib.Core.Path.{◌≡◌, subst}
use mathlib.Core.List.{List}
use Prim.Native.Nat.{ℕ, ◌+◌, ◌-◌, ◌≤◌}
use native.Mathlib.Omega.{arith}
use lib.ListN.{length}
use Rattle.scratch.specs.Parts.{part, put}
use Rattle.scratch.proofs.Parts.{length_part}

module _ {A : Type 0} where
  -- the part from index `at` to index at + n is the vector of n places at `at`
  pub lent-part : (at n : ℕ) (w : List A) → part at (at + n - at) w ≡ part at n w
  lent-part at n w = let e : at + n - at ≡ n = omega arith in rw e

  pub length-lent-part : (at n : ℕ) (w : List A) → at + n ≤ length w → length (part at (at + n - at) w) ≡ n
  length-lent-part at n w h = rw lent-part (length_part at n w h)

  -- the image of a vector was written; the vector has as many places as is said otherwise
  pub image-of : {m n : ℕ} (source target : ℕ) (w : List A) {w' : List A} (P : List A → List A)
      → m ≡ n
      → w' ≡ put target (P (part source m w)) w
      → w' ≡ put target (P (part source n w)) w
  image-of source target w {w'} P e = subst (λ k. w' ≡ put target (P (part source k w)) w) e
