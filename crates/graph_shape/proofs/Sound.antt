-- What the checks of the counts and the row starts accept: the whole exactly `Rows`. Assumes nothing.
use Rattle.std.proofs.Common.{◌≡◌, ℕ, zero, suc, ◌+◌, ◌<◌, ◌≤◌, ◌↔◌, List, length, get_or, sym, ⊎_elim, le_refl, le_of_suc-le-suc, eq-or-lt_of_le, add-one, arith, ltb-false, le-ltb}
use Rattle.error.specs.Answer.{Accepted}
use Rattle.error.proofs.Checks.{next-accepted}
use Rattle.graph_counts.proofs.Sound.{size-accepted, row-start-count-accepted, entry-count-accepted}
use Rattle.graph_shape.specs.Rows.{Rows}
use Rattle.graph_shape.specs.ShapeChecks.{row_starts_fault, shape_fault}
use Rattle.graph_shape.proofs.First.{refuse_first-accepted}

pub row-starts-accepted : (n : ℕ) (starts : List ℕ)
    → (row_starts_fault n starts ≡ Accepted) ↔ ((i : ℕ) → i < n → get_or starts i 0 ≤ get_or starts (i + 1) 0)
unfolding row_starts_fault
row-starts-accepted n starts = (
  λ h i l. ltb-false _ _ ((refuse_first-accepted _ _ _).0 h i l),
  λ h. (refuse_first-accepted _ _ _).1 (λ i l. le-ltb _ _ (h i l)),
)

-- starts that never fall are at most the last
at-most-last : (starts : List ℕ) (n : ℕ)
    → ((i : ℕ) → i < n → get_or starts i 0 ≤ get_or starts (i + 1) 0)
    → (i : ℕ)
    → i ≤ n
    → get_or starts i 0 ≤ get_or starts n 0
at-most-last starts zero h i l = let e : i ≡ 0 = omega arith in rw e (le_refl _)
at-most-last starts (suc n) h i l =
    ⊎_elim (λ (e : i ≡ suc n). rw e (le_refl _))
    (λ m.
    let before = at-most-last starts n (λ j k. h j (omega arith)) i (le_of_suc-le-suc m) in
    let step = rw add-one at (h n (le_refl (suc n))) in
    omega arith)
    (eq-or-lt_of_le l)

pub shape-accepted : (n : ℕ) (starts : List ℕ) (entries : ℕ)
    → (shape_fault n starts entries ≡ Accepted) ↔ Rows n starts entries
unfolding shape_fault
shape-accepted n starts entries = (says, holds)
  where
    says : shape_fault n starts entries ≡ Accepted → Rows n starts entries
    says h =
        let size = (next-accepted _ _).0 h in
        let count = (next-accepted _ _).0 size.1 in
        let rising = (next-accepted _ _).0 count.1 in
        let small = (size-accepted n entries).0 size.0 in
        let rows = (row-starts-accepted n starts).0 rising.0 in
        let last = (entry-count-accepted entries (get_or starts n 0)).0 rising.1 in
        record {
          few-rows = small.0;
          few-entries = small.1;
          count = (row-start-count-accepted n (length starts)).0 count.0;
          rising = rows;
          last = sym last;
          within = λ i l. rw last (at-most-last starts n rows i l);
        }

    holds : Rows n starts entries → shape_fault n starts entries ≡ Accepted
    holds r =
        (next-accepted _ _).1 (
          (size-accepted n entries).1 (r.few-rows, r.few-entries),
          (next-accepted _ _).1 (
            (row-start-count-accepted n (length starts)).1 r.count,
            (next-accepted _ _).1 (
              (row-starts-accepted n starts).1 r.rising,
              (entry-count-accepted entries (get_or starts n 0)).1 (sym r.last),
            ),
          ),
        )

-- the same, where the number of entries is said by the last row start
pub rows-by-last : {n : ℕ} {starts : List ℕ} {entries : ℕ} → Rows n starts entries → Rows n starts (get_or starts n 0)
rows-by-last rows = rw rows.last rows
