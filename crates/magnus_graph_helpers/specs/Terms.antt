-- The terms of a Taylor sum (01, parts 6, 7 and 9), as the kernels of the steps form them in one work slice. The vector
-- at 0 is the sum so far, at first the signal v, and the vector at n is Wᵏv, of which the next term is made. What lies
-- after these two is each kernel's own. The formulas, over any arithmetic, stand in the crate magnus. Assumes nothing.
use Rattle.std.specs.Prelude.{◌≡◌, List, ℕ, ◌≤◌, length, drop}
use Rattle.std.proofs.Math.Path.{refl}
use Rattle.arithmetic.specs.Arithmetic.{Arithmetic, vectors, scaled}
use Rattle.arithmetic.specs.Product.{plus_scaled}
use Rattle.scratch.specs.Parts.{part}
use Rattle.magnus.specs.Operators.{Operator, omega4, power, taylor}

module _ {K : Type 0} (A : Arithmetic K) (n : ℕ) where
  open A use {◌*◌}
  open vectors A n use {◌+◌ as ◌⊕◌, ◌-◌ as ◌⊖◌}

  infixl 60 ◌⊕◌ ◌⊖◌
  infixr 65 ◌·◌
  infixl 70 ◌*◌
  abbrev ◌·◌ : K → List K → List K
  ◌·◌ = scaled A n

  -- Ωv of order 4 from a = P1 v, b = P2 v, c = P2 a and d = P1 b: scale · (a + b) + comm_scale · (c - d)
  unfoldable pub omega4_sum : K → K → List K → List K → List K → List K → List K
  omega4_sum scale comm_scale a b c d = scale · (a ⊕ b) ⊕ comm_scale · (c ⊖ d)

  -- with the factors of 01, part 6, it is Ωv
  pub omega4-sum : (minus_half s sign τ : K) (P1 P2 : Operator A n) (v : List K)
      → omega4_sum (minus_half * τ) (sign * s * τ * τ) (P1 v) (P2 v) (P2 (P1 v)) (P1 (P2 v))
      ≡ omega4 A n minus_half s sign τ P1 P2 v
  unfolding omega4 omega4_sum
  omega4-sum minus_half s sign τ P1 P2 v = refl

  -- One term of a Taylor sum of W was added. In the work slice w, now w', the vector at n was taken to its image under
  -- W, and to the vector at 0 the coefficient times that image was added. From index `used` on w is as it was.
  pub record TermAdded (used : ℕ) (W : Operator A n) (coefficient : K) (w w' : List K) : Type 0 where
    pub image : part n n w' ≡ W (part n n w)
    pub sum : part 0 n w' ≡ plus_scaled A n (part 0 n w) coefficient (W (part n n w))
    pub length-kept : length w' ≡ length w
    pub rest : (k : ℕ) → used ≤ k → drop k w' ≡ drop k w

  -- The terms up to Wᵈv were added to the vector v at 0, which is now the Taylor sum of degree d. The vector at n is
  -- Wᵈv. From index `used` on the work slice, once w₀ and now w, is as it was.
  pub record TermsAdded (used : ℕ) (c : ℕ → K) (d : ℕ) (W : Operator A n) (w₀ w : List K) : Type 0 where
    pub sum : part 0 n w ≡ taylor A n c d W (part 0 n w₀)
    pub image : part n n w ≡ power A n W d (part 0 n w₀)
    pub length-kept : length w ≡ length w₀
    pub rest : (k : ℕ) → used ≤ k → drop k w ≡ drop k w₀
