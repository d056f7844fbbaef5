-- A row sum depends on the row's entries in their order and on the signal at their columns, and on nothing else: not on
-- where the row is stored, on other rows or on other places of the signal. For any arithmetic. Assumes nothing.
use mathlib.Core.Path.{◌≡◌, refl, ap₂}
use mathlib.Core.List.{List}
use Prim.Native.Nat.{ℕ, zero as none, suc, ◌<◌, ◌+◌ as ◌+ℕ◌, ◌-◌ as ◌-ℕ◌}
use native.Mathlib.Omega.{arith}
use lib.ListN.{get_or}
use Rattle.arithmetic.specs.Arithmetic.{Arithmetic, at}
use Rattle.arithmetic.specs.Product.{sum_to, entries, row_sum}

-- the number of entries of row i
abbrev pub entry_count : List ℕ → ℕ → ℕ
entry_count starts i = get_or starts (i +ℕ 1) 0 -ℕ get_or starts i 0

-- the column of entry j of row i, counted from the row's start
abbrev pub entry_column : List ℕ → List ℕ → ℕ → ℕ → ℕ
entry_column starts cols i j = get_or cols (get_or starts i 0 +ℕ j) 0

module _ {K : Type 0} (A : Arithmetic K) where
  open A use {◌+◌}

  -- the value of entry j of row i
  abbrev pub entry_value : List ℕ → List K → ℕ → ℕ → K
  entry_value starts vals i j = at A vals (get_or starts i 0 +ℕ j)

  -- row i of one matrix and row i' of another have the same entries in the same order
  pub record SameRow (starts cols : List ℕ) (vals : List K) (i : ℕ) (starts' cols' : List ℕ) (vals' : List K) (i' : ℕ)
      : Type 0 where
    pub count : entry_count starts i ≡ entry_count starts' i'
    pub columns : (j : ℕ) → j < entry_count starts i → entry_column starts cols i j ≡ entry_column starts' cols' i' j
    pub values : (j : ℕ) → j < entry_count starts i → entry_value starts vals i j ≡ entry_value starts' vals' i' j

  -- two signals agree at the columns of row i
  abbrev pub AgreeAtColumns : List ℕ → List ℕ → ℕ → List K → List K → Type 0
  AgreeAtColumns starts cols i x x' =
      (j : ℕ) → j < entry_count starts i → at A x (entry_column starts cols i j) ≡ at A x' (entry_column starts cols i j)

  -- terms that are equal one by one have equal sums
  pub sum-equal : (g h : ℕ → K) (m : ℕ) → ((j : ℕ) → j < m → g j ≡ h j) → sum_to A g m ≡ sum_to A h m
  unfolding sum_to
  sum-equal g h none e = refl
  sum-equal g h (suc m) e = ap₂ ◌+◌ (sum-equal g h m (λ j l. e j (omega arith))) (e m (omega arith))

  -- the same row and signals that agree at its columns give the same sum
  pub row-sum-reach : {starts cols : List ℕ} {vals : List K} {i : ℕ} {starts' cols' : List ℕ} {vals' : List K} {i' : ℕ}
      → SameRow starts cols vals i starts' cols' vals' i'
      → (x x' : List K)
      → AgreeAtColumns starts cols i x x'
      → row_sum A starts cols vals x i ≡ row_sum A starts' cols' vals' x' i'
  unfolding row_sum entries
  row-sum-reach {starts} {i = i} row x x' signals =
      rw (← row.count)
      (sum-equal _ _ (entry_count starts i) (λ j l. rw (row.values j l, signals j l, row.columns j l)))

  -- of one matrix: a row sum changes with the signal only where the row has a column
  pub row-sum-of-signal : (starts cols : List ℕ) (vals : List K) (i : ℕ) (x x' : List K)
      → AgreeAtColumns starts cols i x x'
      → row_sum A starts cols vals x i ≡ row_sum A starts cols vals x' i
  row-sum-of-signal starts cols vals i x x' signals =
      row-sum-reach (record { count = refl; columns = λ j l. refl; values = λ j l. refl }) x x' signals
