-- A list of pairs as chunks of two elements. Assumes nothing.
use mathlib.Core.Path.{◌≡◌, refl, sym, ap, ◌∙◌}
use mathlib.Core.List.{List, []}
use Prim.Native.Nat.{ℕ, zero, suc, ◌+◌, ◌*◌, ◌<◌}
use native.Mathlib.Omega.{arith}
use lib.ListN.{get_or, take, drop}
use lib.Seq.{get_or-take, get_or-drop, drop-drop}
use Rattle.std.specs.Simd.{first_chunks}

module _ {A : Type 0} where
  -- chunk i
  chunk : (count : ℕ) (x : List A) (i : ℕ) → i < count → get_or (first_chunks 2 count x) i [] ≡ take 2 (drop (2 * i) x)
  chunk zero x i h = absurd (omega arith)
  chunk (suc count) x zero h = refl
  chunk (suc count) x (suc i) h =
      let e : 2 + 2 * i ≡ 2 * suc i = omega arith in
      chunk count (drop 2 x) i (omega arith) ∙ ap (take 2) (drop-drop (2 * i) 2 x ∙ ap (λ (k : ℕ). drop k x) e)

  -- its elements
  element : {chunks : List (List A)} (count : ℕ) (x : List A) (i j k : ℕ) (d : A)
      → chunks ≡ first_chunks 2 count x
      → i < count
      → j < 2
      → k ≡ 2 * i + j
      → get_or (get_or chunks i []) j d ≡ get_or x k d
  element count x i j k d e h l p =
      ap (λ (u : List (List A)). get_or (get_or u i []) j d) e
      ∙ ap (λ u. get_or u j d) (chunk count x i h)
      ∙ get_or-take 2 (drop (2 * i) x) j d l
      ∙ get_or-drop (2 * i) x j d
      ∙ ap (λ m. get_or x m d) (sym p)

  pub first-of-chunk : {chunks : List (List A)} (count : ℕ) (x : List A) (i : ℕ) (d : A)
      → chunks ≡ first_chunks 2 count x
      → i < count
      → get_or (get_or chunks i []) 0 d ≡ get_or x (2 * i) d
  first-of-chunk count x i d e h = element count x i 0 (2 * i) d e h (omega arith) (omega arith)

  pub second-of-chunk : {chunks : List (List A)} (count : ℕ) (x : List A) (i : ℕ) (d : A)
      → chunks ≡ first_chunks 2 count x
      → i < count
      → get_or (get_or chunks i []) 1 d ≡ get_or x (2 * i + 1) d
  second-of-chunk count x i d e h = element count x i 1 (2 * i + 1) d e h (omega arith) (omega arith)
