-- Terms that are added within the front of a work slice, which was split: what they are of the whole. For any arithmetic. Assumes nothing.
use Rattle.std.proofs.Common.{◌≡◌, ℕ, ◌+◌, ◌-◌, ◌*◌, ◌≤◌, List, ◌++◌, length, drop, sym, ap, ◌∙◌, subst, arith}
use Rattle.std.proofs.lemmas.List.{take-append-le, drop-append-le}
use Rattle.std.proofs.Math.Seq.{drop-append-add}
use lib.ListN.{length-drop}
use Rattle.std.proofs.Math.ListN.{take}
use Rattle.std.proofs.Common.{length-append}
use Rattle.arithmetic.specs.Arithmetic.{Arithmetic}
use Rattle.scratch.specs.Parts.{part}
use Rattle.magnus.specs.Operators.{Operator, taylor, power}
use Rattle.magnus_graph_helpers.specs.Terms.{TermsAdded}

-- a vector within the front is that of the front
pub part-in-front : {A : Type 0} (at n : ℕ) (x y : List A) → at + n ≤ length x → part at n (x ++ y) ≡ part at n x
part-in-front at n x y h =
    let within : at ≤ length x = omega arith in
    let left : n ≤ length (drop at x) = rw (length-drop at x) (omega arith) in
    ap (take n) (drop-append-le at x y within) ∙ take-append-le n (drop at x) y left

-- what lies behind the front is the rest of the slice
pub behind-front : {A : Type 0} (m k : ℕ) (x y : List A) → length x ≡ m → m ≤ k → drop k (x ++ y) ≡ drop (k - m) y
behind-front m k x y size h =
    let e : length x + (k - m) ≡ k = omega arith in
    subst (λ (j : ℕ). drop j (x ++ y) ≡ drop (k - m) y) e (drop-append-add x y (k - m))

module _ {K : Type 0} (A : Arithmetic K) (n : ℕ) where
  pub terms-in-front : (used m : ℕ) (c : ℕ → K) (d : ℕ) (W : Operator A n) {x x' : List K} (y : List K)
      → length x ≡ m
      → 2 * n ≤ m
      → TermsAdded A n used c d W x x'
      → TermsAdded A n m c d W (x ++ y) (x' ++ y)
  terms-in-front used m c d W {x} {x'} y size room terms =
      let size' : length x' ≡ m = terms.length-kept ∙ size in
      let signal = part-in-front 0 n x y (omega arith) in
      record {
        sum = part-in-front 0 n x' y (omega arith) ∙ terms.sum ∙ ap (taylor A n c d W) (sym signal);
        image = part-in-front n n x' y (omega arith) ∙ terms.image ∙ ap (power A n W d) (sym signal);
        length-kept = simp length-append (omega arith);
        rest = λ k h. behind-front m k x' y size' h ∙ sym (behind-front m k x y size h);
      }
