-- The Taylor sum of a step of law 2 in its work slice, which was split into the vectors that the terms write, and the roots and the values behind
-- them. Assumes nothing.
use mathlib.Core.Path.{◌≡◌, refl, sym, ap, ◌∙◌}
use mathlib.Core.List.{List, ◌++◌}
use Prim.Native.Nat.{ℕ, ◌+◌, ◌-◌, ◌*◌}
use native.Mathlib.Omega.{arith}
use lib.ListN.{length, take, drop}
use lib.Seq.{drop-drop, take-take}
use lib.Ieee.{Float, binary64}
use Rattle.std.proofs.Common.{length-append}
use Rattle.arithmetic.specs.Arithmetic.{Arithmetic, ieee}
use Rattle.scratch.specs.Parts.{part}
use Rattle.graph_pairs.proofs.Vectors.{first-vector, same-behind}
use Rattle.magnus.specs.Operators.{Operator, taylor}
use Rattle.varcoef_magnus_graph_traj_step.specs.SignalScaled.{SumFormed}

abbrev A : Arithmetic Float
A = ieee binary64

module _ (n m : ℕ) (w a b c d e r x : List Float)
    (from-n : a ≡ drop n w) (from-2n : b ≡ drop n a) (from-4n : c ≡ drop (2 * n) b) (from-6n : d ≡ drop (2 * n) c) (from-8n : e ≡ drop (2 * n) d)
    (roots : r ≡ take (3 * n) e) (values : x ≡ drop (3 * n) e) where
  -- what is not written begins at 8n
  at-8n : e ≡ drop (8 * n) w
  at-8n =
      let count : n + n + 2 * n + 2 * n + 2 * n ≡ 8 * n = omega arith in
      from-8n
      ∙ ap (drop (2 * n)) (from-6n ∙ ap (drop (2 * n)) (from-4n ∙ ap (drop (2 * n)) (from-2n ∙ ap (drop n) from-n ∙ drop-drop n n w)
      ∙ drop-drop (2 * n) (n + n) w) ∙ drop-drop (2 * n) (n + n + 2 * n) w)
      ∙ drop-drop (2 * n) (n + n + 2 * n + 2 * n) w
      ∙ ap (λ k. drop k w) count

  -- it has the roots and the values
  pub kept-lists : (take (2 * n) r ≡ part (8 * n) (2 * n) w) × (take (2 * m) x ≡ part (11 * n) (2 * m) w)
  kept-lists =
      let count : 8 * n + 3 * n ≡ 11 * n = omega arith in (
        ap (take (2 * n)) roots ∙ take-take (2 * n) (3 * n) e (omega arith) ∙ ap (take (2 * n)) at-8n,
        ap (take (2 * m)) (values ∙ ap (drop (3 * n)) at-8n ∙ drop-drop (3 * n) (8 * n) w ∙ ap (λ k. drop k w) count),
      )

-- The parts are joined again. W is formed of the roots r and the values x.
module _ (n : ℕ) (coefficients : ℕ → Float) (W : List Float → List Float → Operator A n)
    (sum gap products scaled next rest sum' products' scaled' next' : List Float) where
  pub joined : {r r' x x' w : List Float}
      → (r ≡ r') × (x ≡ x')
      → (length sum ≡ n) × (length gap ≡ n) × (length products ≡ 2 * n) × (length scaled ≡ 2 * n) × (length next ≡ 2 * n)
      → (length sum' ≡ n) × (length products' ≡ 2 * n) × (length scaled' ≡ 2 * n) × (length next' ≡ 2 * n)
      → w ≡ sum ++ (gap ++ (products ++ (scaled ++ (next ++ rest))))
      → sum' ≡ taylor A n coefficients 4 (W r x) sum
      → SumFormed n coefficients 4 (W r' x') w (sum' ++ (gap ++ (products' ++ (scaled' ++ (next' ++ rest)))))
  joined {w = w} same sizes sizes' begun formed =
      let held : part 0 n w ≡ sum = ap (part 0 n) begun ∙ first-vector n sum _ sizes.0 in
      record {
        sum = first-vector n sum' _ sizes'.0 ∙ formed ∙ (λ i. taylor A n coefficients 4 (W (same.0 i) (same.1 i)) (sym held i));
        length-kept = rw begun (simp length-append (omega (arith, sizes, sizes')));
        rest = λ j h. same-behind n j sum sum' _ _ sizes.0 sizes'.0 (omega arith)
            (same-behind n (j - n) gap gap _ _ sizes.1 sizes.1 (omega arith)
            (same-behind (2 * n) (j - n - n) products products' _ _ sizes.2 sizes'.1 (omega arith)
            (same-behind (2 * n) (j - n - n - 2 * n) scaled scaled' _ _ sizes.3 sizes'.2 (omega arith)
            (same-behind (2 * n) (j - n - n - 2 * n - 2 * n) next next' rest rest sizes.4 sizes'.3 (omega arith) refl))))
            ∙ ap (drop j) (sym begun);
      }
