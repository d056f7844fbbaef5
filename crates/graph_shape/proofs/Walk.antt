-- The walk over the n + 1 row starts, and at each over the entries from the start before it (at first 0) up to this one, which the searches for a
-- first fault make. These ranges follow each other: they stay within the entries, and in the end have passed them all. Assumes nothing.
use Rattle.std.proofs.Common.{◌≡◌, ℕ, zero, suc, ◌+◌, ◌<◌, ◌≤◌, List, ◌∷◌, get_or, add-one, arith, length, take, length-take, sym, ap, ◌∙◌}
use lib.Seq.{get_or-take}
use Rattle.graph_shape.specs.Rows.{Rows}

-- the start before start i, and 0 before the first
abbrev pub start_before : List ℕ → ℕ → ℕ
start_before starts i = get_or (0 ∷ starts) i 0

module _ {n : ℕ} {starts : List ℕ} {entries : ℕ} (rows : Rows n starts entries) where
  -- start i of the first n + 1 row starts, which the walk goes over as a list of their own, is start i
  taken : {i : ℕ} → i < length (take (n + 1) starts) → (i < n + 1) × (get_or (take (n + 1) starts) i 0 ≡ get_or starts i 0)
  taken {i} l =
      let m : i < n + 1 = omega (arith, length-take (n + 1) starts) in
      (m, get_or-take (n + 1) starts i 0 m)

  -- the walk turns from it to the next
  pub start-before-next : {i : ℕ} → i < length (take (n + 1) starts) → get_or (take (n + 1) starts) i 0 ≡ start_before starts (i + 1)
  start-before-next {i} l = (taken l).1 ∙ ap (start_before starts) (sym (add-one i))

  -- it is not below the one before
  pub start-before-below : {i : ℕ} → i < length (take (n + 1) starts) → start_before starts i ≤ get_or (take (n + 1) starts) i 0
  start-before-below {i = zero} l = omega arith
  start-before-below {i = suc i} l =
      let t = taken l in
      let more : i + 1 ≡ suc i = add-one i in
      omega (arith, t.1, rw more at (rows.rising i (omega (arith, t.0))))

  -- what lies below it is an entry
  pub stored : {i k : ℕ} → i < length (take (n + 1) starts) → k < get_or (take (n + 1) starts) i 0 → k < entries
  stored {i} l h = let t = taken l in omega (arith, t.0, t.1, h, rows.within i (omega (arith, t.0)))

  -- the last is the number of entries
  pub start-before-last : {i : ℕ} → i ≤ n + 1 → length (take (n + 1) starts) ≤ i → start_before starts i ≡ entries
  start-before-last {i} l m =
      let e : i ≡ suc n = omega (arith, length-take (n + 1) starts, rows.count) in
      rw e rows.last
