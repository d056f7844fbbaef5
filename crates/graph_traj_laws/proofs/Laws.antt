-- What a law's list is, case by case, and how long it is. Assumes nothing.
use mathlib.Core.Path.{◌≡◌, refl, sym, ap, ap₂, ◌∙◌}
use mathlib.Core.Bool.{Bool, true, false, cond}
use mathlib.Core.List.{List}
use Prim.Native.Nat.{ℕ, zero, suc, ◌+◌, ◌*◌, ◌≤◌, ◌<◌}
use native.Mathlib.Nat.{zero-mul, suc-mul, mul-le-mul_right}
use native.Mathlib.Omega.{arith}
use lib.Dec.{eqb}
use lib.ListN.{length, length-take, length-drop}
use lib.Ieee.{Float}
use borrow.Author.Tests.{eq-eqb, ne_eqb}
use Rattle.scratch.specs.Parts.{part}
use Rattle.scratch.proofs.Parts.{length_part, part-whole}
use Rattle.graph_traj_laws.specs.Laws.{by_law, values_at, law_list}

-- the list of the one segment is the whole pool
pub whole-pool : (m : ℕ) (pool : List Float) → length pool ≡ m → part (0 * m) m pool ≡ pool
whole-pool m pool size = ap (λ (k : ℕ). part k m pool) (zero-mul m) ∙ ap (λ (k : ℕ). part 0 k pool) (sym size) ∙ part-whole pool

-- the two lists of one segment, of one length
module _ (law : ℕ) (start end : List Float) (same : length end ≡ length start) where
  pub law-start : law ≡ 0 → start ≡ law_list law 0 (length start) start end
  unfolding law_list
  law-start z = let first : eqb law 0 ≡ true = eq-eqb law 0 z in rw first (sym (whole-pool _ start refl))

  pub law-end : (law ≡ 0 → ⊥) → end ≡ law_list law 0 (length start) start end
  unfolding law_list
  law-end n = let first : eqb law 0 ≡ false = ne_eqb law 0 n in rw first (sym (whole-pool _ end same))

-- of segment k's own lists a law names the list that it names in the pools
pub law-list-of-segment : (law k m : ℕ) (starts ends : List Float)
    → k * m + m ≤ length starts
    → k * m + m ≤ length ends
    → law_list law 0 m (part (k * m) m starts) (part (k * m) m ends) ≡ law_list law k m starts ends
unfolding law_list
law-list-of-segment law k m starts ends p q =
    ap₂ (cond (eqb law 0)) (whole-pool m (part (k * m) m starts) (length_part (k * m) m starts p))
    (whole-pool m (part (k * m) m ends) (length_part (k * m) m ends q))

-- the values of a segment of law 0 or 1 are its law's list, at any time
pub law-values : (law k m : ℕ) (f : Float) (starts ends : List Float)
    → law ≤ 1
    → values_at law m f (part (k * m) m starts) (part (k * m) m ends) ≡ law_list law k m starts ends
unfolding law_list values_at by_law
law-values zero k m f starts ends h = refl
law-values (suc zero) k m f starts ends h = refl
law-values (suc (suc law)) k m f starts ends h = absurd (omega arith)

-- segment k's list lies within a pool of so many segments
pub list-within : (k segments m : ℕ) → k < segments → k * m + m ≤ segments * m
list-within k segments m l =
    let h : suc k * m ≤ segments * m = mul-le-mul_right m l in
    omega (arith, suc-mul k m)

-- what two lists have, the one that is chosen has
either : (P : List Float → Type 0) (b : Bool) {x y : List Float} → P x → P y → P (cond b x y)
either P true p q = p
either P false p q = q

-- what segment k's lists in both pools have, its law's list has
pub law-list-has : (P : List Float → Type 0) (law k m : ℕ) (starts ends : List Float)
    → P (part (k * m) m starts)
    → P (part (k * m) m ends)
    → P (law_list law k m starts ends)
unfolding law_list
law-list-has P law k m starts ends p q = either P (eqb law 0) p q

-- a law's list has m values
pub length-law : (law k m : ℕ) (starts ends : List Float)
    → k * m + m ≤ length starts
    → k * m + m ≤ length ends
    → length (law_list law k m starts ends) ≡ m
length-law law k m starts ends p q =
    law-list-has (λ (l : List Float). length l ≡ m) law k m starts ends (simp (length-take, length-drop) (omega arith))
    (simp (length-take, length-drop) (omega arith))
