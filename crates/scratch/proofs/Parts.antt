-- The laws of vectors that lie in one list, for elements of any type: what a vector is, element by element; what
-- writing one vector leaves of the others and of the rest; vectors written over again. Assumes nothing.
use mathlib.Core.Path.{◌≡◌, refl, sym, ap, ◌∙◌}
use mathlib.Core.Logic.{◌⊎◌, ⊎_elim}
use mathlib.Core.List.{List, [], ◌∷◌, ◌++◌, map, append_assoc, append-nil}
use Prim.Native.Nat.{ℕ, zero, suc, ◌+◌, ◌-◌, ◌≤◌, ◌<◌}
use native.Mathlib.Nat.{zero-add, add-zero, add-suc, suc-add}
use native.Mathlib.Numerals.{add-one}
use native.Mathlib.Decide.{dec_le}
use native.Mathlib.Omega.{arith}
use lib.ListN.{length, get_or, take, drop, set, replicate, length-take, length-drop, length-map, drop_of_length-le}
use lib.Seq.{sets, length-sets, sets-eq, set-set, set_comm, drop-set-lt, drop-set-add, take-set-le, take_at, drop_at, drop-drop, paste}
use lib.Seq.{length-take-le, take-length, get_or-take, get_or-drop, ext_get_or}
use Rattle.std.proofs.lemmas.List.{replicate_more}
use Rattle.arithmetic.specs.Vector.{tabulate}
use Rattle.arithmetic.proofs.Tabulate.{length-tabulate, get_d_tabulate, tabulate-none, tabulate-next, tabulate-same}
use Rattle.scratch.specs.Parts.{part, put, Apart}

module _ {A : Type 0} where
  -- ---- a vector and its elements

  pub length_part : (at n : ℕ) (w : List A) → at + n ≤ length w → length (part at n w) ≡ n
  length_part at n w h = rw (length-take, length-drop) (omega arith)

  pub get_d_part : (at n : ℕ) (w : List A) (i : ℕ) (d : A) → i < n → get_or (part at n w) i d ≡ get_or w (at + i) d
  get_d_part at n w i d h = get_or-take n (drop at w) i d h ∙ get_or-drop at w i d

  -- an element of a vector that is what it was in w₀; its index k may be said otherwise, as at + 2 * i + 1 for at + (2 * i + 1)
  pub get_d_kept : (at n : ℕ) (w w₀ : List A) → part at n w ≡ part at n w₀ → (i : ℕ) → i < n → (k : ℕ) → k ≡ at + i → (d : A)
      → get_or w k d ≡ get_or (part at n w₀) i d
  get_d_kept at n w w₀ kept i h k e d = ap (λ j. get_or w j d) e ∙ sym (get_d_part at n w i d h) ∙ ap (λ v. get_or v i d) kept

  -- a vector by its elements
  pub part-elements : (at n : ℕ) (w : List A) (d : A) → at + n ≤ length w
      → tabulate (λ i. get_or w (at + i) d) n ≡ part at n w
  part-elements at n w d h =
      ext_get_or d _ _ (length-tabulate _ n ∙ sym (length_part at n w h))
      (λ i l. let k : i < n = (rw (length-tabulate (λ j. get_or w (at + j) d) n) at l) in
      get_d_tabulate _ n i d k ∙ sym (get_d_part at n w i d k))

  -- a vector is that of its own elements
  pub tabulate-part : (at n : ℕ) (w : List A) (d : A) → at + n ≤ length w
      → tabulate (λ i. get_or (part at n w) i d) n ≡ part at n w
  tabulate-part at n w d h =
      tabulate-same _ _ n (λ i l. get_d_part at n w i d l) ∙ part-elements at n w d h

  -- the whole list as a vector
  pub part-whole : (w : List A) → part 0 (length w) w ≡ w
  part-whole w = take-length w

  -- ---- what is written

  pub length-put : (at : ℕ) (v w : List A) → length (put at v w) ≡ length w
  unfolding put
  length-put at v w = length-sets w at v

  pub part-of-put : (at n : ℕ) (v w : List A) → length v ≡ n → at + n ≤ length w → part at n (put at v w) ≡ v
  unfolding put
  part-of-put at n v w e h =
      rw (
        sets-eq v w at (omega arith),
        append_assoc,
        drop_at (take at w) _ at (length-take-le at w (omega arith)),
        take_at v _ n e,
      )

  -- nothing is written, and one element more: the step of every loop that writes a vector
  pub put-none : (at : ℕ) (f : ℕ → A) (w : List A) → put at (tabulate f 0) w ≡ w
  unfolding put
  put-none at f w = rw tabulate-none

  sets-append : (w : List A) (at : ℕ) (u v : List A) → sets w at (u ++ v) ≡ sets (sets w at u) (at + length u) v
  sets-append w at [] v = rw add-zero
  sets-append w at (y ∷ u) v = rw (add-suc, ← suc-add) (sets-append (set w at y) (suc at) u v)

  -- a vector is written in two parts
  pub put-append : (at : ℕ) (u v w : List A) → put at (u ++ v) w ≡ put (at + length u) v (put at u w)
  unfolding put
  put-append at u v w = sets-append w at u v

  pub put_next : (at : ℕ) (f : ℕ → A) (i : ℕ) (w : List A)
      → put at (tabulate f (i + 1)) w ≡ set (put at (tabulate f i) w) (at + i) (f i)
  unfolding put
  put_next at f i w = rw (tabulate-next, sets-append, length-tabulate f i)

  -- the elements from index `at` on, lent to a call that made them v, are that vector written there
  pub put_lent : (at : ℕ) (v w x : List A) → at + length v ≤ length w → x ≡ v
      → take at w ++ (x ++ drop (at + length v - at) (drop at w)) ≡ put at v w
  unfolding put
  put_lent at v w x h e =
      let m : at + length v - at ≡ length v = omega arith in
      rw (e, m, drop-drop, sets-eq v w at h, append_assoc)

  -- the first n elements, lent likewise
  pub put_lent_first : (n : ℕ) (v w x : List A) → length v ≡ n → n ≤ length w → x ≡ v → x ++ drop n w ≡ put 0 v w
  unfolding put
  put_lent_first n v w x l h e = rw (e, sets-eq v w 0 (omega arith), zero-add, l)

  -- n places with one value, as `fill` leaves them
  pub tabulate-replicate : (x : A) (n : ℕ) → tabulate (λ i. x) n ≡ replicate n x
  unfolding tabulate
  tabulate-replicate x zero = refl
  tabulate-replicate x (suc n) = rw (tabulate-replicate x n, replicate_more n x, add-one)

  -- what `copy_within` of the library leaves
  pub put_pasted : (n source target : ℕ) (w : List A) → source + n ≤ length w → target + n ≤ length w
      → paste w target (drop source w) n ≡ put target (part source n w) w
  unfolding put
  put_pasted n source target w h k =
      let size : length (part source n w) ≡ n = length_part source n w h in
      rw (sets-eq (part source n w) w target (omega arith), size)

  -- the elements from index `at`, lent to a call that made them the image of src under f, are that vector written there
  pub image-placed : {B : Type 0} (f : B → A) (at : ℕ) (src : List B) (w x : List A)
      → at + length src ≤ length w
      → x ≡ map f src
      → take at w ++ (x ++ drop (at + length src - at) (drop at w)) ≡ put at (map f src) w
  image-placed f at src w x h e =
      let size = length-map src f in
      let room : at + length (map f src) ≤ length w = omega arith in
      let placed = put_lent at (map f src) w x room e in
      rw size at placed

  -- ---- what lies before or after what is written

  sets-before : (w : List A) (b : ℕ) (v : List A) (a n : ℕ) → a + n ≤ b → part a n (sets w b v) ≡ part a n w
  sets-before w b [] a n h = refl
  sets-before w b (x ∷ v) a n h =
      let e : b ≡ a + (b - a) = omega arith in
      sets-before (set w b x) (suc b) v a n (omega arith)
      ∙ ap (λ k. take n (drop a (set w k x))) e
      ∙ rw (drop-set-add a w (b - a) x, take-set-le n (drop a w) (b - a) x (omega arith))

  pub part-of-put-before : (b : ℕ) (v w : List A) (a n : ℕ) → a + n ≤ b → part a n (put b v w) ≡ part a n w
  unfolding put
  part-of-put-before b v w a n h = sets-before w b v a n h

  sets-after : (w : List A) (b : ℕ) (v : List A) (k : ℕ) → b + length v ≤ k → drop k (sets w b v) ≡ drop k w
  sets-after w b [] k h = refl
  sets-after w b (x ∷ v) k h = sets-after (set w b x) (suc b) v k (omega arith) ∙ drop-set-lt k w b x (omega arith)

  pub drop-of-put : (b : ℕ) (v w : List A) (k : ℕ) → b + length v ≤ k → drop k (put b v w) ≡ drop k w
  unfolding put
  drop-of-put b v w k h = sets-after w b v k h

  pub part-of-put-after : (b : ℕ) (v w : List A) (a n : ℕ) → b + length v ≤ a → part a n (put b v w) ≡ part a n w
  part-of-put-after b v w a n h = ap (take n) (drop-of-put b v w a h)

  -- a vector apart from the one that is written
  pub part-of-put-apart : (n a b : ℕ) (v w : List A) → length v ≤ n → Apart n a b → part a n (put b v w) ≡ part a n w
  part-of-put-apart n a b v w e h = elim (dec_le a b) [
    | yes l ↦ part-of-put-before b v w a n (omega arith)
    | no l ↦ part-of-put-after b v w a n (omega arith)
  ]

  -- a vector of any size, wholly before or after the one that is written
  pub part-of-put-outside : (b : ℕ) (v w : List A) (a n : ℕ) → (a + n ≤ b) ⊎ (b + length v ≤ a)
      → part a n (put b v w) ≡ part a n w
  part-of-put-outside b v w a n h = ⊎_elim (part-of-put-before b v w a n) (part-of-put-after b v w a n) h

  -- an element after what is written
  pub get_or-of-put-after : (b : ℕ) (v w : List A) (j : ℕ) (d : A) → b + length v ≤ j → get_or (put b v w) j d ≡ get_or w j d
  get_or-of-put-after b v w j d h =
      let e : j ≡ j + 0 = omega arith in
      ap (λ k. get_or (put b v w) k d) e
      ∙ sym (get_or-drop j (put b v w) 0 d)
      ∙ ap (λ u. get_or u 0 d) (drop-of-put b v w j h)
      ∙ get_or-drop j w 0 d
      ∙ ap (λ k. get_or w k d) (sym e)

  -- ---- written over again

  -- an element outside of what is written may as well be written first
  set-of-sets : (w : List A) (b : ℕ) (v : List A) (j : ℕ) (x : A) → ((i : ℕ) → i < length v → j ≡ b + i → ⊥)
      → set (sets w b v) j x ≡ sets (set w j x) b v
  set-of-sets w b [] j x h = refl
  set-of-sets w b (y ∷ v) j x h =
      set-of-sets (set w b y) (suc b) v j x (λ i l e. h (i + 1) (omega arith) (omega arith))
      ∙ ap (λ (u : List A). sets u (suc b) v) (set_comm w b j y x (λ e. h 0 (omega arith) (omega arith)))

  pub set-of-put-outside : (b : ℕ) (v w : List A) (k : ℕ) (x : A) → (k < b) ⊎ (b + length v ≤ k)
      → set (put b v w) k x ≡ put b v (set w k x)
  unfolding put
  set-of-put-outside b v w k x h =
      set-of-sets w b v k x (λ i l p. ⊎_elim (λ before. omega arith) (λ after. omega arith) h)

  sets-of-sets : (w : List A) (at : ℕ) (u v : List A) → length u ≡ length v → sets (sets w at u) at v ≡ sets w at v
  sets-of-sets w at [] [] e = refl
  sets-of-sets w at [] (y ∷ v) e = absurd (omega arith)
  sets-of-sets w at (x ∷ u) [] e = absurd (omega arith)
  sets-of-sets w at (x ∷ u) (y ∷ v) e =
      ap (λ (l : List A). sets l (suc at) v) (set-of-sets (set w at x) (suc at) u at y (λ i l p. omega arith))
      ∙ sets-of-sets (set (set w at x) at y) (suc at) u v (omega arith)
      ∙ ap (λ (l : List A). sets l (suc at) v) (set-set w at x y)

  -- a vector written over itself
  pub put-of-put : (at : ℕ) (u v w : List A) → length u ≡ length v → put at v (put at u w) ≡ put at v w
  unfolding put
  put-of-put at u v w e = sets-of-sets w at u v e

  -- ---- the first part

  -- the first n elements written, and the rest
  pub put_first : (n : ℕ) (v w : List A) → length v ≡ n → n ≤ length w → put 0 v w ≡ v ++ drop n w
  unfolding put
  put_first n v w e h = rw (sets-eq v w 0 (omega arith), zero-add, e)

  -- where only the first n elements differ, writing these leaves no difference
  pub put-first-same : (n : ℕ) (v w w' : List A)
      → length v ≡ n
      → n ≤ length w
      → length w' ≡ length w
      → drop n w' ≡ drop n w
      → put 0 v w' ≡ put 0 v w
  put-first-same n v w w' e h k r = rw (put_first n v w e h, put_first n v w' e (omega arith), r)

  -- the whole written
  pub put_whole : (v w : List A) → length v ≡ length w → put 0 v w ≡ v
  put_whole v w e =
      rw (put_first (length w) v w e (omega arith), drop_of_length-le w {i = length w} (omega arith), append-nil v)

  -- ---- what a call that writes one vector tells

  -- the vector x of n places was written at index `at` of w, which has become w'
  pub record Wrote (n at : ℕ) (x w w' : List A) : Type 0 where
    pub length-kept : length w' ≡ length w
    pub here : part at n w' ≡ x
    pub apart : (a : ℕ) → Apart n a at → part a n w' ≡ part a n w
    pub rest : (k : ℕ) → at + n ≤ k → drop k w' ≡ drop k w

  pub wrote : (n at : ℕ) (x w w' : List A) → length x ≡ n → at + n ≤ length w → w' ≡ put at x w → Wrote n at x w w'
  wrote n at x w w' l h e = record {
    length-kept = rw e (length-put at x w);
    here = rw e (part-of-put at n x w l h);
    apart = λ a far. rw e (part-of-put-apart n a at x w (omega arith) far);
    rest = λ k after. rw e (drop-of-put at x w k (omega arith));
  }
