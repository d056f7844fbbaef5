-- A term of order 4 from two walks over the pattern that both samples share: the first writes their products with v as pairs, the second
-- Ωv of them over v. The work slice was split into its vectors. For any arithmetic. Assumes nothing.
use mathlib.Core.Path.{◌≡◌, refl, sym, ap, ◌∙◌}
use mathlib.Core.List.{List, ◌++◌}
use Prim.Native.Nat.{ℕ, ◌-◌, ◌≤◌, ◌*◌ as ◌*ℕ◌}
use native.Mathlib.Omega.{arith}
use lib.ListN.{length, drop}
use Rattle.std.proofs.Common.{length-append}
use Rattle.arithmetic.specs.Vector.{tabulate}
use Rattle.arithmetic.specs.Arithmetic.{Arithmetic}
use Rattle.arithmetic.specs.Product.{plus_scaled}
use Rattle.arithmetic.proofs.Tabulate.{length-tabulate}
use Rattle.arithmetic.proofs.Product.{length-plus-scaled}
use Rattle.scratch.specs.Parts.{part}
use Rattle.scratch.proofs.Parts.{part-whole}
use Rattle.magnus.specs.Operators.{Operator, omega4}
use Rattle.magnus_graph_helpers.specs.Terms.{omega4_sum, omega4-sum, TermAdded}
use Rattle.graph_pairs.specs.Pairs.{pairs, firsts, seconds}
use Rattle.graph_pairs.proofs.Pairs.{firsts-of-pairs, seconds-of-pairs}
use Rattle.graph_pairs.proofs.Vectors.{first-vector, next-vector, same-behind}

-- The work slice has the sum, v, n pairs and the rest. f and g are what b and a hold at each place.
module _ {K : Type 0} (A : Arithmetic K) (n used : ℕ) (minus_half s sign τ : K) (P1 P2 : Operator A n) (f g : ℕ → K) (coefficient : K)
    (sum v old rest : List K) (sizes : (length sum ≡ n) × (length v ≡ n) × (length old ≡ 2 *ℕ n)) (within : 4 *ℕ n ≤ used)
    (b-is : tabulate f n ≡ P2 v) (a-is : tabulate g n ≡ P1 v) where
  open A use {◌*◌}

  infixl 70 ◌*◌
  abbrev Ω : Operator A n
  Ω = omega4 A n minus_half s sign τ P1 P2

  -- what the second walk forms of the pairs
  abbrev formed : List K → List K
  formed p = omega4_sum A n (minus_half * τ) (sign * s * τ * τ) (seconds A n p) (firsts A n p) (P2 (seconds A n p)) (P1 (firsts A n p))

  formula : formed (pairs n f g) ≡ Ω v
  formula =
      let a = seconds-of-pairs A n f g ∙ a-is in
      let b = firsts-of-pairs A n f g ∙ b-is in
      (λ i. omega4_sum A n (minus_half * τ) (sign * s * τ * τ) (a i) (b i) (P2 (a i)) (P1 (b i)))
      ∙ omega4-sum A n minus_half s sign τ P1 P2 v

  length-formed : (p : List K) → length (formed p) ≡ n
  unfolding omega4_sum
  length-formed p = length-tabulate _ n

  pub term-of-pairs : {w behind behind' products v' sum' : List K}
      → w ≡ sum ++ behind
      → behind ≡ v ++ behind'
      → behind' ≡ old ++ rest
      → products ≡ pairs n f g
      → v' ≡ formed products
      → sum' ≡ plus_scaled A (length sum) sum coefficient (part 0 (length sum) v')
      → TermAdded A n used Ω coefficient w (sum' ++ (v' ++ (products ++ rest)))
  term-of-pairs {w} {behind} {behind'} {products} {v'} {sum'} first second third walked image added =
      let begun : w ≡ sum ++ (v ++ (old ++ rest)) = first ∙ ap (λ y. sum ++ y) (second ∙ ap (λ y. v ++ y) third) in
      let size-products : length products ≡ 2 *ℕ n = ap length walked ∙ length-tabulate _ (2 *ℕ n) in
      let size-v : length v' ≡ n = ap length image ∙ length-formed products in
      let size-sum : length sum' ≡ n = ap length added ∙ length-plus-scaled A _ sum coefficient _ ∙ sizes.0 in
      let whole : part 0 (length sum) v' ≡ v' = ap (λ (k : ℕ). part 0 k v') (sizes.0 ∙ sym size-v) ∙ part-whole v' in
      let v-is : v' ≡ Ω v = image ∙ ap formed walked ∙ formula in
      let start : part n n w ≡ v = ap (part n n) begun ∙ next-vector n n sum v _ sizes.0 sizes.1 in
      let sum-is : sum' ≡ plus_scaled A n sum coefficient (Ω v) =
      added ∙ (λ i. plus_scaled A (sizes.0 i) sum coefficient ((whole ∙ v-is) i)) in
      record {
        image = next-vector n n sum' v' _ size-sum size-v ∙ v-is ∙ ap Ω (sym start);
        sum = first-vector n sum' _ size-sum ∙ sum-is
            ∙ (λ i. plus_scaled A n (sym (ap (part 0 n) begun ∙ first-vector n sum _ sizes.0) i) coefficient (Ω (sym start i)));
        length-kept = rw begun (simp length-append (omega (arith, sizes, size-sum, size-v, size-products)));
        rest = λ k h. same-behind n k sum sum' _ _ sizes.0 size-sum (omega arith)
            (same-behind n (k - n) v v' _ _ sizes.1 size-v (omega arith)
            (same-behind (2 *ℕ n) (k - n - n) old products rest rest sizes.2 size-products (omega arith) refl))
            ∙ ap (drop k) (sym begun);
      }
