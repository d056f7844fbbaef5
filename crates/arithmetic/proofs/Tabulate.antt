-- The laws of `tabulate`, for elements of any type. Assumes nothing.
use mathlib.Core.Path.{◌≡◌, refl}
use mathlib.Core.Logic.{⊎_elim}
use mathlib.Core.List.{List, [], ◌∷◌, ◌++◌}
use Prim.Native.Nat.{ℕ, zero, suc, ◌+◌, ◌<◌}
use native.Mathlib.Nat.{not-suc-le-zero, eq-or-lt_of_le, le_of_suc-le-suc}
use native.Mathlib.Numerals.{add-one}
use native.Mathlib.Omega.{arith}
use lib.ListN.{length, get_or, length-append, get_or-append}
use lib.Seq.{get_or_at, ext_get_or}
use Rattle.arithmetic.specs.Vector.{tabulate}

module _ {A : Type 0} where
  pub length-tabulate : (f : ℕ → A) (n : ℕ) → length (tabulate f n) ≡ n
  unfolding tabulate
  length-tabulate f zero = refl
  length-tabulate f (suc n) = rw (length-append, length-tabulate f n, add-one)

  -- place i holds f i
  pub get_d_tabulate : (f : ℕ → A) (n i : ℕ) (d : A) → i < n → get_or (tabulate f n) i d ≡ f i
  unfolding tabulate
  get_d_tabulate f zero i d h = absurd (not-suc-le-zero h)
  get_d_tabulate f (suc n) i d h =
      ⊎_elim (λ e. rw e (get_or_at (tabulate f n) (f n) [] d n (length-tabulate f n)))
      (λ l. rw (get_or-append (tabulate f n) _ d i (rw (length-tabulate f n) l)) (get_d_tabulate f n i d l))
      (eq-or-lt_of_le (le_of_suc-le-suc h))

  -- no place, and one place more
  pub tabulate-none : (f : ℕ → A) → tabulate f 0 ≡ []
  unfolding tabulate
  tabulate-none f = refl

  pub tabulate-next : (f : ℕ → A) (n : ℕ) → tabulate f (n + 1) ≡ tabulate f n ++ (f n ∷ [])
  unfolding tabulate
  tabulate-next f n = rw add-one

  -- two functions that agree at each of the n places give one vector
  pub tabulate-same : (f g : ℕ → A) (n : ℕ) → ((i : ℕ) → i < n → f i ≡ g i) → tabulate f n ≡ tabulate g n
  unfolding tabulate
  tabulate-same f g zero h = refl
  tabulate-same f g (suc n) h = rw (tabulate-same f g n (λ i l. h i (omega arith)), h n (omega arith))

  -- a list is the vector of its own elements
  pub tabulate-elements : (x : List A) (d : A) → tabulate (λ i. get_or x i d) (length x) ≡ x
  tabulate-elements x d =
      ext_get_or d _ _ (length-tabulate _ _)
      (λ i l. get_d_tabulate _ (length x) i d (rw (length-tabulate (λ j. get_or x j d) (length x)) at l))
