-- The work slice of a weighted step of order 4 (01, part 7), split into its vectors and the roots of the weights: what the calls that write the roots
-- leave there, and how the halves, joined again, are cleared. Assumes nothing.
use mathlib.Core.Path.{◌≡◌, sym, ap, ◌∙◌}
use mathlib.Core.List.{List, ◌++◌, map}
use Prim.Native.Nat.{ℕ, ◌+◌, ◌-◌, ◌*◌, ◌≤◌}
use native.Mathlib.Omega.{arith}
use lib.ListN.{length, take, drop, length-map, length-drop, length-append}
use lib.Seq.{drop-append-add, drop-drop}
use Rattle.scratch.specs.Parts.{put}
use Rattle.scratch.proofs.Parts.{Wrote, wrote, put_first, put-first-same, image-placed}

module _ {A : Type 0} where
  -- the images of the two weights, which the calls wrote to x1 and x2
  module _ (n : ℕ) (f : A → A) (weights1 weights2 back x1 x2 : List A) (size1 : length weights1 ≡ n) (size2 : length weights2 ≡ n)
      (room : 3 * n ≤ length back) (image1 : x1 ≡ map f weights1) (image2 : x2 ≡ map f weights2) where
    abbrev one : List A
    one = x1 ++ drop n back

    abbrev pub both : List A
    both = take n one ++ (x2 ++ drop (2 * n - n) (drop n one))

    wrote-first : Wrote n 0 (map f weights1) back one
    wrote-first =
        let size = length-map weights1 f ∙ size1 in
        wrote n 0 (map f weights1) back one size (omega arith)
        (ap (λ x. x ++ drop n back) image1 ∙ sym (put_first n (map f weights1) back size (omega arith)))

    wrote-second : Wrote n n (map f weights2) one both
    wrote-second =
        let kept = wrote-first.length-kept in
        let count : 2 * n - n ≡ n + length weights2 - n = omega arith in
        wrote n n (map f weights2) one both (length-map weights2 f ∙ size2) (omega arith)
        (ap (λ k. take n one ++ (x2 ++ drop k (drop n one))) count ∙ image-placed f n weights2 one x2 (omega arith) image2)

    pub first-roots : take n both ≡ map f weights1
    first-roots = wrote-second.apart 0 (omega arith) ∙ wrote-first.here

    pub second-roots : take (2 * n - n) (drop n both) ≡ map f weights2
    second-roots =
        let count : 2 * n - n ≡ n = omega arith in
        ap (λ k. take k (drop n both)) count ∙ wrote-second.here

    pub length-both : length both ≡ length back
    length-both = wrote-second.length-kept ∙ wrote-first.length-kept

    pub rest-of-both : drop (3 * n) both ≡ drop (3 * n) back
    rest-of-both = wrote-second.rest (3 * n) (omega arith) ∙ wrote-first.rest (3 * n) (omega arith)

  -- a slice that was split at `split`; what lies `behind` that and more is as it was
  module _ (w : List A) (split behind : ℕ) (front back : List A) (size : length front ≡ split) (kept : length back ≡ length (drop split w))
      (rest : drop behind back ≡ drop behind (drop split w)) where
    rest-joined : drop (split + behind) (front ++ back) ≡ drop (split + behind) w
    rest-joined =
        ap (λ k. drop (k + behind) (front ++ back)) (sym size)
        ∙ drop-append-add front back behind
        ∙ rest
        ∙ drop-drop behind split w

    -- it is cleared as if it had not been written
    pub cleared-joined : (need : ℕ) (z w' : List A) → need ≡ split + behind → length z ≡ need → need ≤ length w → split ≤ length w
        → w' ≡ put 0 z (front ++ back)
        → w' ≡ put 0 z w
    cleared-joined need z w' all size-z room within cleared =
        let joined : length (front ++ back) ≡ length w = rw (length-append, size, kept, length-drop) (omega arith) in
        cleared ∙ put-first-same need z w (front ++ back) size-z room joined (rw all rest-joined)
