-- Loops that write a vector, one element a turn, from index `at` of a list: `Written` is their invariant, and its laws
-- are what their proofs cite. `WrittenOver` is the same for one of several vectors that a loop writes. For elements of any type.
-- Assumes nothing.
use mathlib.Core.Path.{◌≡◌, refl, sym, ap, ◌∙◌}
use mathlib.Core.Logic.{◌⊎◌, inl, inr, ⊎_elim}
use mathlib.Core.List.{List}
use Prim.Native.Nat.{ℕ, ◌+◌, ◌-◌, ◌≤◌, ◌<◌}
use native.Mathlib.Decide.{dec_le}
use native.Mathlib.Omega.{arith}
use lib.ListN.{length, get_or, set, length-set}
use Rattle.arithmetic.specs.Vector.{tabulate}
use Rattle.arithmetic.proofs.Tabulate.{length-tabulate}
use Rattle.scratch.specs.Parts.{part, put, Apart}
use Rattle.scratch.proofs.Parts.{put-none, put_next, get_d_part, get_d_kept, part-of-put-apart, part-of-put-outside}
use Rattle.scratch.proofs.Parts.{get_or-of-put-after, set-of-put-outside, put_whole}

-- after a turn fewer are left
pub fewer-turns : (n i : ℕ) → i < n → n - (i + 1) < n - i
fewer-turns n i h = omega arith

module _ {A : Type 0} where
  -- i of n turns have written f 0, .., f (i - 1) from index `at` over w₀, which has become w
  pub record Written (at : ℕ) (f : ℕ → A) (n : ℕ) (w₀ : List A) (i : ℕ) (w : List A) : Type 0 where
    pub turns : i ≤ n
    pub list : w ≡ put at (tabulate f i) w₀
    pub length-kept : length w ≡ length w₀

  -- before the first turn
  pub written_none : (at : ℕ) (f : ℕ → A) (n : ℕ) (w : List A) → Written at f n w 0 w
  written_none at f n w = record { turns = omega arith; list = sym (put-none at f w); length-kept = refl }

  module _ {at : ℕ} {f : ℕ → A} {n : ℕ} {w₀ : List A} {i : ℕ} {w : List A} (written : Written at f n w₀ i w) where
    -- a turn writes the next value; the loop may say its index k otherwise, as i for 0 + i
    pub written_next : i < n → (k : ℕ) (x : A) → k ≡ at + i → x ≡ f i → Written at f n w₀ (i + 1) (set w k x)
    written_next l k x p q = record {
      turns = omega arith;
      list = rw (p, q, written.list) (sym (put_next at f i w₀));
      length-kept = length-set w k x ∙ written.length-kept;
    }

    -- after the last turn the vector v is written
    pub written_all : n ≤ i → {v : List A} → tabulate f n ≡ v → w ≡ put at v w₀
    written_all l e = let last : i ≡ n = omega arith in rw (← e, ← last) written.list

    -- m elements wholly before or after the vector that is written are as they were
    pub outside_kept : (a m : ℕ) → (a + m ≤ at) ⊎ (at + n ≤ a) → part a m w ≡ part a m w₀
    outside_kept a m h =
        let turns : length (tabulate f i) ≤ n = rw (length-tabulate f i) written.turns in
        rw written.list
        (part-of-put-outside at (tabulate f i) w₀ a m (⊎_elim inl (λ (after : at + n ≤ a). inr (omega arith)) h))

    -- an element outside of the vector is written: it may as well have been written first
    pub written-outside : (k : ℕ) (x : A) → (k < at) ⊎ (at + n ≤ k) → Written at f n (set w₀ k x) i (set w k x)
    written-outside k x h =
        let turns : length (tabulate f i) ≤ n = rw (length-tabulate f i) written.turns in
        record {
          turns = written.turns;
          list = rw written.list
              (set-of-put-outside at (tabulate f i) w₀ k x (⊎_elim inl (λ (after : at + n ≤ k). inr (omega arith)) h));
          length-kept = simp length-set written.length-kept;
        }

    -- a vector apart from the one that is written is as it was, and so is each of its elements
    pub part-kept : (a : ℕ) → Apart n a at → part a n w ≡ part a n w₀
    part-kept a h =
        rw written.list (part-of-put-apart n a at (tabulate f i) w₀ (rw (length-tabulate f i) written.turns) h)

    pub read-apart : (a : ℕ) → Apart n a at → i < n → (d : A) → get_or w (a + i) d ≡ get_or (part a n w₀) i d
    read-apart a h l d = get_d_kept a n w w₀ (part-kept a h) i l _ refl d

    -- an element that is not yet written is as it was; at the turn's own place it is the old vector's
    pub read-ahead : (j : ℕ) → at + i ≤ j → (d : A) → get_or w j d ≡ get_or w₀ j d
    read-ahead j l d = rw written.list (get_or-of-put-after at (tabulate f i) w₀ j d (rw (length-tabulate f i) l))

    -- so is the turn's element of a vector that does not begin before the one that is written
    pub read-after : (a : ℕ) → at ≤ a → i < n → (d : A) → get_or w (a + i) d ≡ get_or (part a n w₀) i d
    read-after a h l d = read-ahead (a + i) (omega arith) d ∙ sym (get_d_part a n w₀ i d l)

    -- and so is that of a vector that does not begin before the one that is written and end within it
    pub read_first : (a : ℕ) → (a < at → a + n ≤ at) → i < n → (d : A) → get_or w (a + i) d ≡ get_or (part a n w₀) i d
    read_first a h l d = elim (dec_le at a) [
      | yes k ↦ read-after a k l d
      | no k ↦ read-apart a (omega (arith, h (omega arith))) l d
    ]

    pub read_here : i < n → (d : A) → get_or w (at + i) d ≡ get_or (part at n w₀) i d
    read_here l d = read-ahead (at + i) (omega arith) d ∙ sym (get_d_part at n w₀ i d l)

  -- after the last turn of a loop that writes the whole list
  pub written-whole : {f : ℕ → A} {w₀ : List A} {i : ℕ} {w v : List A}
      → Written 0 f (length w₀) w₀ i w
      → length w₀ ≤ i
      → tabulate f (length w₀) ≡ v
      → w ≡ v
  written-whole {f} {w₀} r l e = written_all r l e ∙ put_whole _ w₀ (ap length (sym e) ∙ length-tabulate f (length w₀))

  -- ---- several vectors

  -- i of n turns have written f 0, .., f (i - 1) from index `at` over a list of which Before tells, which may be what such loops have written
  pub record WrittenOver (at : ℕ) (f : ℕ → A) (n : ℕ) (Before : List A → Type 0) (i : ℕ) (w : List A) : Type 0 where
    pub before : List A
    pub rest : Before before
    pub here : Written at f n before i w

  -- before the first turn
  pub over_none : (at : ℕ) (f : ℕ → A) (n : ℕ) {Before : List A → Type 0} (w : List A) → Before w → WrittenOver at f n Before 0 w
  over_none at f n w told = record { before = w; rest = told; here = written_none at f n w }

  module _ {at : ℕ} {f : ℕ → A} {n : ℕ} {Before : List A → Type 0} {i : ℕ} {w : List A} (over : WrittenOver at f n Before i w) where
    -- a turn writes the next value of this vector
    pub over-next : i < n → (k : ℕ) (x : A) → k ≡ at + i → x ≡ f i → WrittenOver at f n Before (i + 1) (set w k x)
    over-next l k x p q = record { before = over.before; rest = over.rest; here = written_next over.here l k x p q }

    -- it writes outside of this vector: the list of which Before tells may as well be written to
    pub over-outside : {After : List A → Type 0} (k : ℕ) (x : A)
        → (k < at) ⊎ (at + n ≤ k)
        → ((u : List A) → Before u → After (set u k x))
        → WrittenOver at f n After i (set w k x)
    over-outside k x far then =
        record { before = set over.before k x; rest = then over.before over.rest; here = written-outside over.here k x far }

    -- a vector outside of this one is as in the list of which Before tells, and so there is what it was before the loop
    pub kept-below : (a m : ℕ) (w₀ : List A)
        → (a + m ≤ at) ⊎ (at + n ≤ a)
        → ((u : List A) → Before u → part a m u ≡ part a m w₀)
        → part a m w ≡ part a m w₀
    kept-below a m w₀ far below = outside_kept over.here a m far ∙ below over.before over.rest
