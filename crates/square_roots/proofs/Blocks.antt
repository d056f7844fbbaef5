-- The images of a vector's elements, written block by block: within a work slice, or from one list to another. Assumes nothing.
use mathlib.Core.Path.{◌≡◌, refl, sym, ap, ◌∙◌, subst}
use mathlib.Core.List.{List, map, ◌++◌, map-append}
use Prim.Native.Nat.{ℕ, ◌+◌, ◌-◌, ◌≤◌}
use native.Mathlib.Omega.{arith}
use lib.ListN.{length, take, drop, length-map}
use lib.Seq.{take-add, take_all, drop-drop}
use lib.Ieee.{Float}
use Rattle.scratch.specs.Parts.{part, put}
use Rattle.scratch.proofs.Parts.{length_part, length-put, put-append, put_whole, image-placed}

module _ (f : Float → Float) where
  -- the images of the n elements from s on are n
  pub images : (s n : ℕ) (x : List Float) → s + n ≤ length x → length (map f (part s n x)) ≡ n
  images s n x h = length-map (part s n x) f ∙ length_part s n x h

  -- the images of the first `done` elements of the vector at s are written at `at`, and then those of the next `size` behind them
  pub block-behind : (s at done size : ℕ) (x w : List Float) → s + done ≤ length x
      → put (at + done) (map f (part (s + done) size x)) (put at (map f (part s done x)) w) ≡ put at (map f (part s (done + size) x)) w
  block-behind s at done size x w h =
      let first = map f (part s done x) in
      let second = map f (part (s + done) size x) in
      let both : map f (part s (done + size) x) ≡ first ++ second =
      ap (map f)
      (take-add done size (drop s x) ∙ ap (λ (y : List Float). part s done x ++ take size y) (drop-drop done s x))
      ∙ map-append f (part s done x) (part (s + done) size x) in
      ap (λ (k : ℕ). put (at + k) second (put at first w)) (sym (images s done x h))
      ∙ sym (put-append at first second w)
      ∙ ap (λ (y : List Float). put at y w) (sym both)

  -- of the n elements of x from `source` on, the images of the first `done` are written over w from `target` on
  pub record Imaged (x w : List Float) (n source target done : ℕ) (w' : List Float) : Type 0 where
    pub inside : done ≤ n
    pub written : w' ≡ put target (map f (part source done x)) w
    pub length-kept : length w' ≡ length w

  pub imaged-none : (x w : List Float) (n source target : ℕ) → Imaged x w n source target 0 w
  unfolding put
  imaged-none x w n source target = record { inside = omega arith; written = refl; length-kept = refl }

  -- the block of those from `done` up to `end` is written behind them
  module _ {x w : List Float} {n source target done : ℕ} {w' : List Float} (before : Imaged x w n source target done w')
      (end : ℕ) (l : done ≤ end) (more : end ≤ n) (room : source + n ≤ length x) where
    imaged-block : {w'' : List Float} → w'' ≡ put (target + done) (map f (part (source + done) (end - done) x)) w'
        → Imaged x w n source target end w''
    imaged-block e =
        let size = end - done in
        let whole : done + size ≡ end = omega arith in
        record {
          inside = more;
          written = e
              ∙ ap (put (target + done) (map f (part (source + done) size x))) before.written
              ∙ block-behind source target done size x w (omega (arith, before.inside))
              ∙ ap (λ (k : ℕ). put target (map f (part source k x)) w) whole;
          length-kept = ap length e ∙ length-put (target + done) (map f (part (source + done) size x)) w' ∙ before.length-kept;
        }

  -- the same, where the place up to which they are written has another name
  pub imaged-same : {x w : List Float} {n source target done end : ℕ} {w' : List Float} → done ≡ end
      → Imaged x w n source target done w'
      → Imaged x w n source target end w'
  imaged-same {x} {w} {n} {source} {target} {w' = w'} e before = subst (λ (k : ℕ). Imaged x w n source target k w') e before

  pub imaged-all : {x w : List Float} {n source target done : ℕ} {w' : List Float} → Imaged x w n source target done w' → n ≤ done
      → w' ≡ put target (map f (part source n x)) w
  imaged-all {x} {w} {n} {source} {target} {done} all l =
      let whole : done ≡ n = omega (arith, all.inside) in
      all.written ∙ ap (λ (k : ℕ). put target (map f (part source k x)) w) whole

  -- from a list x to another of its length, the block is lent and comes back as z
  module _ {x y : List Float} (same : length y ≡ length x) where
    pub imaged-lent : {done : ℕ} {y' : List Float} → Imaged x y (length x) 0 0 done y'
        → (end : ℕ) (z : List Float)
        → done ≤ end
        → end ≤ length x
        → z ≡ map f (take (end - done) (drop done x))
        → Imaged x y (length x) 0 0 end (take done y' ++ (z ++ drop (end - done) (drop done y')))
    imaged-lent {done} {y'} before end z l more e =
        let block = part done (end - done) x in
        let size : length block ≡ end - done = length_part done (end - done) x (omega arith) in
        let lent : end - done ≡ done + length block - done = omega (arith, size) in
        let zero : done ≡ 0 + done = omega arith in
        imaged-block before end l more (omega arith)
        (ap (λ (k : ℕ). take done y' ++ (z ++ drop k (drop done y'))) lent
        ∙ image-placed f done block y' z (omega (arith, size, before.length-kept)) e
        ∙ ap (λ (k : ℕ). put k (map f (part k (end - done) x)) y') zero)

    pub imaged-whole : {done : ℕ} {y' : List Float} → Imaged x y (length x) 0 0 done y' → length x ≤ done → y' ≡ map f x
    imaged-whole {done} {y'} all l =
        imaged-all all l
        ∙ ap (λ (v : List Float). put 0 (map f v) y) (take_all (length x) x (omega arith))
        ∙ put_whole (map f x) y (length-map x f ∙ sym same)
