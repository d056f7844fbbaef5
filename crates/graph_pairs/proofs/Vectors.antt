-- A work slice that was split into its vectors: what lies where, once they are joined again. For elements of any type. Assumes nothing.
use mathlib.Core.Path.{◌≡◌, sym, ap, ◌∙◌}
use mathlib.Core.List.{List, ◌++◌}
use Prim.Native.Nat.{ℕ, ◌-◌, ◌≤◌}
use lib.ListN.{length, take, drop}
use lib.Seq.{take_at, drop_at}
use Rattle.scratch.specs.Parts.{part}
use Rattle.magnus_graph_helpers.proofs.Front.{behind-front}

module _ {A : Type 0} where
  -- the first vector
  pub first-vector : (n : ℕ) (x y : List A) → length x ≡ n → part 0 n (x ++ y) ≡ x
  first-vector n x y size = take_at x y n size

  -- a vector behind another
  pub next-vector : (at n : ℕ) (x y z : List A) → length x ≡ at → length y ≡ n → part at n (x ++ (y ++ z)) ≡ y
  next-vector at n x y z before size = ap (take n) (drop_at x (y ++ z) at before) ∙ take_at y z n size

  -- what lies behind both a vector and what has become of it is as it was, if it was so behind them
  pub same-behind : (m k : ℕ) (x x' y y' : List A) → length x ≡ m → length x' ≡ m → m ≤ k
      → drop (k - m) y' ≡ drop (k - m) y
      → drop k (x' ++ y') ≡ drop k (x ++ y)
  same-behind m k x x' y y' size size' h e = behind-front m k x' y' size' h ∙ e ∙ sym (behind-front m k x y size h)
