-- The laws of two vectors that lie in one list as pairs: what each place holds, the vectors read back, and the loop that writes a pair a
-- turn; and those of a row whose entries are added one by one. Assumes nothing.
use mathlib.Core.Path.{◌≡◌, refl, sym, ap, ◌∙◌}
use mathlib.Core.List.{List}
use Prim.Native.Nat.{ℕ, zero, suc, ◌≤◌, ◌<◌, ◌+◌ as ◌+ℕ◌, ◌*◌ as ◌*ℕ◌}
use native.Mathlib.Omega.{arith}
use lib.ListN.{length, get_or, set}
use Rattle.arithmetic.specs.Vector.{tabulate}
use Rattle.arithmetic.specs.Arithmetic.{Arithmetic, at}
use Rattle.arithmetic.proofs.Tabulate.{length-tabulate, tabulate-same}
use Rattle.arithmetic.specs.Product.{entries}
use Rattle.arithmetic.proofs.Product.{at-tabulate, entries_next}
use Rattle.scratch.proofs.Parts.{put_whole}
use Rattle.scratch.proofs.Writing.{Written, written_next, written_all}
use Rattle.graph_checks.specs.Pattern.{Pattern}
use Rattle.graph_rows.proofs.RowEntries.{entry-stored, entry-column}
use Rattle.magnus_graph_helpers.proofs.Terms.{omega4_sum_at}
use Rattle.graph_pairs.specs.Pairs.{alternate, pairs, firsts, seconds, with_entry}

-- an entry before the end of row i is stored, and its column is a node
pub entry_here : {n : ℕ} {starts cols : List ℕ} → Pattern n starts cols
    → (i k : ℕ) → i < n → k < get_or starts (i +ℕ 1) 0 → (k < length cols) × (get_or cols k 0 < n)
entry_here pattern i k l h = (entry-stored pattern.rows i k l h, entry-column pattern i k l h)

module _ {K : Type 0} where
  -- an even place has the first element of its pair, an odd one the second
  pub alternate-first : (f g : ℕ → K) (i : ℕ) → alternate f g (2 *ℕ i) ≡ f i
  unfolding alternate
  alternate-first f g zero = refl
  alternate-first f g (suc i) =
      let twice : 2 *ℕ suc i ≡ suc (suc (2 *ℕ i)) = omega arith in
      ap (alternate f g) twice ∙ alternate-first (λ j. f (suc j)) (λ j. g (suc j)) i

  pub alternate-second : (f g : ℕ → K) (i : ℕ) → alternate f g (2 *ℕ i +ℕ 1) ≡ g i
  unfolding alternate
  alternate-second f g zero = refl
  alternate-second f g (suc i) =
      let twice : 2 *ℕ suc i +ℕ 1 ≡ suc (suc (2 *ℕ i +ℕ 1)) = omega arith in
      ap (alternate f g) twice ∙ alternate-second (λ j. f (suc j)) (λ j. g (suc j)) i

  -- a turn writes the next pair
  pub pair-written : (f g : ℕ → K) {target n : ℕ} {w₀ : List K} {i : ℕ} {w : List K}
      → Written target (alternate f g) (2 *ℕ n) w₀ (2 *ℕ i) w
      → i < n
      → (k l : ℕ) (x y : K)
      → k ≡ target +ℕ 2 *ℕ i
      → l ≡ target +ℕ (2 *ℕ i +ℕ 1)
      → x ≡ f i
      → y ≡ g i
      → Written target (alternate f g) (2 *ℕ n) w₀ (2 *ℕ (i +ℕ 1)) (set (set w k x) l y)
  pair-written f g {target} {n} {w₀} {i} {w} written turn k l x y p q e d =
      let first = written_next written (omega arith) k x p (e ∙ sym (alternate-first f g i)) in
      let second = written_next first (omega arith) l y q (d ∙ sym (alternate-second f g i)) in
      let twice : 2 *ℕ i +ℕ 1 +ℕ 1 ≡ 2 *ℕ (i +ℕ 1) = omega arith in
      rw twice at second

  -- after the last turn of a loop that writes a whole list of n elements, and of n pairs
  pub list-written : {f : ℕ → K} {n : ℕ} {w₀ w : List K} {i : ℕ}
      → length w₀ ≡ n
      → Written 0 f n w₀ i w
      → n ≤ i
      → {v : List K}
      → tabulate f n ≡ v
      → w ≡ v
  list-written {f} {n} {w₀} size written last e =
      written_all written last e ∙ put_whole _ w₀ (ap length (sym e) ∙ length-tabulate f n ∙ sym size)

  pub pairs-written : (f g : ℕ → K) {n : ℕ} {w₀ w : List K} {i : ℕ}
      → length w₀ ≡ 2 *ℕ n
      → Written 0 (alternate f g) (2 *ℕ n) w₀ (2 *ℕ i) w
      → n ≤ i
      → w ≡ pairs n f g
  pairs-written f g size written last = list-written size written (omega arith) refl

module _ {K : Type 0} (A : Arithmetic K) where
  open A use {◌+◌, ◌-◌, ◌*◌}

  infixl 60 ◌+◌ ◌-◌
  infixl 70 ◌*◌
  -- place i of the first elements, and of the second ones
  pub at-firsts : (n : ℕ) (x : List K) (i : ℕ) → i < n → at A (firsts A n x) i ≡ at A x (2 *ℕ i)
  at-firsts n x i h = at-tabulate A _ n i h

  pub at-seconds : (n : ℕ) (x : List K) (i : ℕ) → i < n → at A (seconds A n x) i ≡ at A x (2 *ℕ i +ℕ 1)
  at-seconds n x i h = at-tabulate A _ n i h

  -- the first and the second element of pair i
  pub first-of-pair : (n : ℕ) (f g : ℕ → K) (i : ℕ) → i < n → at A (pairs n f g) (2 *ℕ i) ≡ f i
  first-of-pair n f g i h = at-tabulate A (alternate f g) (2 *ℕ n) (2 *ℕ i) (omega arith) ∙ alternate-first f g i

  pub second-of-pair : (n : ℕ) (f g : ℕ → K) (i : ℕ) → i < n → at A (pairs n f g) (2 *ℕ i +ℕ 1) ≡ g i
  second-of-pair n f g i h = at-tabulate A (alternate f g) (2 *ℕ n) (2 *ℕ i +ℕ 1) (omega arith) ∙ alternate-second f g i

  -- the vectors that were written as pairs
  pub firsts-of-pairs : (n : ℕ) (f g : ℕ → K) → firsts A n (pairs n f g) ≡ tabulate f n
  firsts-of-pairs n f g = tabulate-same _ _ n (first-of-pair n f g)

  pub seconds-of-pairs : (n : ℕ) (f g : ℕ → K) → seconds A n (pairs n f g) ≡ tabulate g n
  seconds-of-pairs n f g = tabulate-same _ _ n (second-of-pair n f g)

  -- an entry is added by its value and its signal, wherever they were read
  pub entry_read : (cols : List ℕ) (k : ℕ) (vals x : List K) (sum : K) {value signal : K}
      → value ≡ at A vals k
      → signal ≡ at A x (get_or cols k 0)
      → sum + value * signal ≡ with_entry A cols k vals x sum
  entry_read cols k vals x sum p q = λ i. sum + p i * q i

  -- one entry more of a row, and two more
  pub with-entry : (cols : List ℕ) (vals x : List K) (lo k : ℕ) {sum next : K}
      → lo ≤ k
      → sum ≡ entries A cols vals x lo k
      → next ≡ with_entry A cols k vals x sum
      → next ≡ entries A cols vals x lo (k +ℕ 1)
  with-entry cols vals x lo k h p q = q ∙ ap (with_entry A cols k vals x) p ∙ sym (entries_next A cols vals x lo k h)

  pub with-two-entries : (cols : List ℕ) (vals x : List K) (lo k : ℕ) {sum next last : K}
      → lo ≤ k
      → sum ≡ entries A cols vals x lo k
      → next ≡ with_entry A cols k vals x sum
      → last ≡ with_entry A cols (k +ℕ 1) vals x next
      → last ≡ entries A cols vals x lo (k +ℕ 2)
  with-two-entries cols vals x lo k h p q r =
      let twice : k +ℕ 1 +ℕ 1 ≡ k +ℕ 2 = omega arith in
      with-entry cols vals x lo (k +ℕ 1) (omega arith) (with-entry cols vals x lo k h p q) r ∙ ap (entries A cols vals x lo) twice

  -- a place of Ωv, from what its vectors hold there
  pub omega-place : (scale comm_scale : K) (a b c d : List K) (i : ℕ) {x y z u : K}
      → x ≡ at A a i
      → y ≡ at A b i
      → z ≡ at A c i
      → u ≡ at A d i
      → scale * (x + y) + comm_scale * (z - u) ≡ omega4_sum_at A scale comm_scale a b c d i
  omega-place scale comm_scale a b c d i p q r s = λ j. scale * (p j + q j) + comm_scale * (r j - s j)
