-- How a loop forms the row product and the signal sum: a row's sum one entry after the other, the signal sum in one walk
-- over the places. For any arithmetic. Assumes nothing.
use mathlib.Core.Path.{◌≡◌}
use mathlib.Core.List.{List}
use Prim.Native.Nat.{ℕ, ◌≤◌, ◌<◌, ◌+◌ as ◌+ℕ◌, ◌-◌ as ◌-ℕ◌}
use native.Mathlib.Nat.{sub_self}
use native.Mathlib.Numerals.{add-one}
use native.Mathlib.Omega.{arith}
use lib.ListN.{length, get_or}
use Rattle.arithmetic.specs.Vector.{tabulate}
use Rattle.arithmetic.specs.Arithmetic.{Arithmetic, at, scaled, subtracted}
use Rattle.arithmetic.specs.Product.{sum_to, entries, plus_scaled}
use Rattle.arithmetic.proofs.Tabulate.{length-tabulate, get_d_tabulate, tabulate-same}

module _ {K : Type 0} (A : Arithmetic K) where
  open A use {zero, past, ◌+◌, ◌-◌, ◌*◌}

  infixl 60 ◌+◌ ◌-◌
  infixl 70 ◌*◌
  -- one term more
  pub sum-next : (f : ℕ → K) (m : ℕ) → sum_to A f (m +ℕ 1) ≡ sum_to A f m + f m
  unfolding sum_to
  sum-next f m = rw add-one

  -- no entry
  pub entries_none : (cols : List ℕ) (vals x : List K) (lo : ℕ) → entries A cols vals x lo lo ≡ zero
  unfolding entries sum_to
  entries_none cols vals x lo = rw sub_self

  -- one entry more
  pub entries_next : (cols : List ℕ) (vals x : List K) (lo k : ℕ) → lo ≤ k
      → entries A cols vals x lo (k +ℕ 1) ≡ entries A cols vals x lo k + at A vals k * at A x (get_or cols k 0)
  unfolding entries
  entries_next cols vals x lo k h =
      let more : k +ℕ 1 -ℕ lo ≡ k -ℕ lo +ℕ 1 = omega arith in
      let last : lo +ℕ (k -ℕ lo) ≡ k = omega arith in
      rw (more, sum-next, last)

  -- a vector's place
  pub at-tabulate : (f : ℕ → K) (n i : ℕ) → i < n → at A (tabulate f n) i ≡ f i
  at-tabulate f n i h = get_d_tabulate f n i past h

  -- the signal sum at place i, and the walk over the places that writes it
  abbrev pub plus_scaled_at : List K → K → List K → ℕ → K
  plus_scaled_at s alpha v i = at A s i + alpha * at A v i

  pub plus-scaled-walk : (n : ℕ) (s : List K) (alpha : K) (v : List K)
      → tabulate (plus_scaled_at s alpha v) n ≡ plus_scaled A n s alpha v
  unfolding plus_scaled
  plus-scaled-walk n s alpha v = tabulate-same _ _ n (λ i h. simp at-tabulate)

  pub length-plus-scaled : (n : ℕ) (s : List K) (alpha : K) (v : List K) → length (plus_scaled A n s alpha v) ≡ n
  unfolding plus_scaled
  length-plus-scaled n s alpha v = length-tabulate _ n

  -- a multiple of a difference, and a difference from a multiple, each in one walk
  pub scaled-difference-walk : (n : ℕ) (s : K) (x y : List K)
      → tabulate (λ i. s * (at A x i - at A y i)) n ≡ scaled A n s (subtracted A n x y)
  scaled-difference-walk n s x y = tabulate-same _ _ n (λ i h. simp at-tabulate)

  pub scaled-less-walk : (n : ℕ) (s : K) (x y : List K)
      → tabulate (λ i. s * at A x i - at A y i) n ≡ subtracted A n (scaled A n s x) y
  scaled-less-walk n s x y = tabulate-same _ _ n (λ i h. simp at-tabulate)
