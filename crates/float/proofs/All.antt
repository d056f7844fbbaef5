-- The laws of `all` by which a walk over a list keeps its answer so far: that of the elements that it has passed.
-- Assumes nothing.
use mathlib.Core.Path.{◌≡◌, refl, sym, ap, ap₂, ◌∙◌}
use mathlib.Core.Bool.{Bool, true, false, ◌&&◌, and-true, and_assoc, and_comm, and_self_left}
use mathlib.Core.List.{List, [], ◌∷◌, ◌++◌}
use Prim.Native.Nat.{ℕ, ◌+◌, ◌≤◌, ◌<◌}
use native.Mathlib.Numerals.{add-one}
use native.Mathlib.Omega.{arith}
use lib.ListN.{length, get_or, take, drop, take-append-drop}
use lib.Seq.{take-suc, take_all, take-add}
use Rattle.std.specs.List.{zip}
use Rattle.float.specs.All.{all}

module _ {A : Type 0} (p : A → Bool) where
  pub all_append : (xs ys : List A) → all p (xs ++ ys) ≡ (all p xs && all p ys)
  unfolding all
  all_append [] ys = refl
  all_append (x ∷ xs) ys =
      ap (λ (b : Bool). p x && b) (all_append xs ys) ∙ sym (and_assoc (p x) (all p xs) (all p ys))

  -- of one element more
  pub all_push : (xs : List A) (x : A) → all p (xs ++ (x ∷ [])) ≡ (all p xs && p x)
  unfolding all
  all_push xs x = all_append xs (x ∷ []) ∙ ap (λ (b : Bool). all p xs && b) (and-true (p x))

  -- of no element
  pub all-of-none : true ≡ all p []
  unfolding all
  all-of-none = refl

  -- of one element more: the answer so far is b, and the element at place k has the answer t
  pub all_more : (xs : List A) (d : A) (k : ℕ) (b t : Bool)
      → k < length xs
      → b ≡ all p (take k xs)
      → t ≡ p (get_or xs k d)
      → (b && t) ≡ all p (take (k + 1) xs)
  unfolding all
  all_more xs d k b t l e f =
      ap (λ (x : Bool). x && t) e
      ∙ ap (λ (x : Bool). all p (take k xs) && x) (f ∙ sym (and-true (p (get_or xs k d))))
      ∙ sym (ap (all p) (ap (λ (j : ℕ). take j xs) (add-one k) ∙ take-suc xs k d l)
      ∙ all_append (take k xs) (get_or xs k d ∷ []))

  -- of all of them
  pub all-passed : (xs : List A) (k : ℕ) (b : Bool) → length xs ≤ k → b ≡ all p (take k xs) → b ≡ all p xs
  all-passed xs k b l e = e ∙ ap (all p) (take_all k xs l)

  -- ---- of two lists at once

  exchange : (a b c d : Bool) → (a && b && (c && d)) ≡ (a && c && (b && d))
  exchange true true c d = refl
  exchange true false c d = sym (and_comm c false)
  exchange false b c d = refl

  -- of two lists at once, by pairs
  pub all-of-pairs : (xs ys : List A) → length xs ≡ length ys
      → all (λ (pair : A × A). p pair.0 && p pair.1) (zip xs ys) ≡ (all p xs && all p ys)
  unfolding all
  all-of-pairs [] [] e = refl
  all-of-pairs [] (y ∷ ys) e = absurd (omega arith)
  all-of-pairs (x ∷ xs) [] e = absurd (omega arith)
  all-of-pairs (x ∷ xs) (y ∷ ys) e =
      ap (λ (b : Bool). p x && p y && b) (all-of-pairs xs ys (omega arith))
      ∙ exchange (p x) (p y) (all p xs) (all p ys)

  -- of the first n + m elements of a list and of those from n on: that of all of them
  pub all-overlapping : (xs : List A) (n m : ℕ) → (all p (take (n + m) xs) && all p (drop n xs)) ≡ all p xs
  all-overlapping xs n m =
      let ys = drop n xs in
      let a = all p (take n xs) in
      let b = all p (take m ys) in
      let c = all p (drop m ys) in
      let first : all p (take (n + m) xs) ≡ (a && b) = ap (all p) (take-add n m xs) ∙ all_append (take n xs) (take m ys) in
      let second : all p ys ≡ (b && c) = ap (all p) (sym (take-append-drop m ys)) ∙ all_append (take m ys) (drop m ys) in
      let whole : all p xs ≡ (a && all p ys) = ap (all p) (sym (take-append-drop n xs)) ∙ all_append (take n xs) ys in
      ap₂ ◌&&◌ first second
      ∙ and_assoc a b (b && c)
      ∙ ap (λ (x : Bool). a && x) (and_self_left b c ∙ sym second)
      ∙ sym whole
