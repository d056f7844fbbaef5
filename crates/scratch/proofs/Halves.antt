-- The laws of a list that is split at an index and joined again, after a vector in one of its halves was written. Assumes nothing.
use mathlib.Core.Path.{◌≡◌, refl, sym, ap, ap₂, ◌∙◌}
use mathlib.Core.List.{List, [], ◌∷◌, ◌++◌}
use Prim.Native.Nat.{ℕ, suc, ◌+◌, ◌-◌, ◌≤◌}
use native.Mathlib.Omega.{arith}
use lib.ListN.{length, take, drop, set, length-set, length-take, take-append-drop}
use lib.Seq.{sets, take-take, set-append_left}
use Rattle.std.proofs.lemmas.Slice.{between_is}
use Rattle.scratch.specs.Parts.{part, put}
use Rattle.scratch.proofs.Parts.{put_lent}

module _ {A : Type 0} where
  -- a vector of the first half
  pub part-of-first : (at n k : ℕ) (w : List A) → at + n ≤ k → part at n (take k w) ≡ part at n w
  part-of-first at n k w h = ap (take n) (sym (between_is w at k)) ∙ take-take n (k - at) (drop at w) (omega arith)

  sets-in_first : (v first second : List A) (at : ℕ) → at + length v ≤ length first
      → sets (first ++ second) at v ≡ sets first at v ++ second
  sets-in_first [] first second at h = refl
  sets-in_first (x ∷ v) first second at h =
      ap (λ (u : List A). sets u (suc at) v) (set-append_left first second at x (omega arith))
      ∙ sets-in_first v (set first at x) second (suc at) (omega (arith, length-set first at x))

  pub put-in_first : (at : ℕ) (v first second : List A) → at + length v ≤ length first
      → put at v (first ++ second) ≡ put at v first ++ second
  unfolding put
  put-in_first at v first second h = sets-in_first v first second at h

  module _ (w : List A) {first second x v : List A} {n : ℕ} (at : ℕ) (split : ℕ) (front : first ≡ take split w) (back : second ≡ drop split w)
      (size : length v ≡ n) (written : x ≡ v) where
    -- the vector lies at the beginning of the second half
    pub joined-after : split ≡ at → at + n ≤ length w → first ++ (x ++ drop n second) ≡ put at v w
    joined-after same h =
        let count : n ≡ at + length v - at = omega arith in
        ap₂ (λ f s. f ++ (x ++ drop n s)) (front ∙ ap (λ k. take k w) same) (back ∙ ap (λ k. drop k w) same)
        ∙ ap (λ k. take at w ++ (x ++ drop k (drop at w))) count
        ∙ put_lent at v w x (omega arith) written

    -- the vector lies in the first half
    pub joined-before : at + n ≤ split → split ≤ length w
        → (take at first ++ (x ++ drop (at + n - at) (drop at first))) ++ second ≡ put at v w
    joined-before h k =
        let count : at + n - at ≡ at + length v - at = omega arith in
        let room : at + length v ≤ length first = rw (front, length-take) (omega arith) in
        ap (λ j. (take at first ++ (x ++ drop j (drop at first))) ++ second) count
        ∙ ap (λ u. u ++ second) (put_lent at v first x room written)
        ∙ sym (put-in_first at v first second room)
        ∙ ap (put at v) (ap₂ ◌++◌ front back ∙ take-append-drop split w)
