-- The parts of Ωv of order 6 (01, part 9), as the kernel forms them in one work slice: the sums that a walk forms from
-- products, and what each part of the kernel leaves in the work slice. Where a vector lies, the table in src/kernel.rt
-- tells. The formulas, over any operators, stand in the crate magnus (specs/Omega6.antt). Assumes nothing.
use Rattle.std.specs.Prelude.{◌≡◌, List, ℕ, ◌≤◌, ◌+◌ as ◌+ℕ◌, ◌*◌ as ◌*ℕ◌, length, drop}
use Rattle.std.proofs.Math.Path.{refl}
use Rattle.arithmetic.specs.Arithmetic.{Arithmetic, vectors, scaled}
use Rattle.arithmetic.specs.Product.{plus_scaled}
use Rattle.scratch.specs.Parts.{part}
use Rattle.magnus.specs.Operators.{Operator}
use Rattle.magnus.specs.OperatorArithmetic.{on_vectors}
use Rattle.magnus.specs.Omega6.{Constants6, b1, b2, b3, c1, c2, lop, rop, second_difference, two_b3_plus_c1, two_b3_plus_c1_of_b1}

module _ {K : Type 0} (n : ℕ) where
  -- The vectors that lie before index `from` and all from index 22n on are as they were in w, which has become w'.
  pub record Kept (from : ℕ) (w w' : List K) : Type 0 where
    pub before : (a : ℕ) → a +ℕ n ≤ from → part a n w' ≡ part a n w
    pub length-kept : length w' ≡ length w
    pub rest : (j : ℕ) → 22 *ℕ n ≤ j → drop j w' ≡ drop j w

module _ {K : Type 0} (A : Arithmetic K) where
  open A use {◌+◌, ◌-◌, ◌*◌, -◌}

  infixl 60 ◌+◌ ◌-◌
  infixl 70 ◌*◌
  infix 80 -◌
  -- A3 - 2 A2 + A1 at a place, from a1, a2 and a3 there; s times that
  abbrev pub second_difference_of : K → K → K → K → K
  second_difference_of s a1 a2 a3 = s * (- a3 + a2 + a2 - a1)

module _ {K : Type 0} (A : Arithmetic K) (n : ℕ) where
  open vectors A n use {◌+◌ as ◌⊕◌, ◌-◌ as ◌⊖◌, -◌ as ⊖◌}

  infixl 60 ◌⊕◌ ◌⊖◌
  infixr 65 ◌·◌
  infix 80 ⊖◌
  abbrev ◌·◌ : K → List K → List K
  ◌·◌ = scaled A n

  -- A3 - 2 A2 + A1 at a vector, from its products a1, a2 and a3 with the samples; s times that
  unfoldable pub scaled_second_difference : K → List K → List K → List K → List K
  scaled_second_difference s a1 a2 a3 = s · (⊖ a3 ⊕ a2 ⊕ a2 ⊖ a1)

  -- 2 B3 + C1 at a vector, from B3 and C1 there
  unfoldable pub twice_first_plus : List K → List K → List K
  twice_first_plus b3x c1x = b3x ⊕ b3x ⊕ c1x

  module _ (k : Constants6 K) (τ : K) where
    open A use {◌+◌, ◌*◌, -◌}
    open k use {sqrt15_over3, ten_over3, one_over60}

    infixl 60 ◌+◌
    infixl 70 ◌*◌
    infix 80 -◌
    -- C2x from products: p2w = P2 w for w = (2 B3 + C1) x; p1y, p2y, p3y = P1 y, P2 y, P3 y for y = B1 x; p2b2y = P2 (B2 y);
    -- p1p2y, p3p2y = P1 (P2 y), P3 (P2 y)
    unfoldable pub c2_sum : List K → List K → List K → List K → List K → List K → List K → List K
    c2_sum p2w p1y p2y p3y p2b2y p1p2y p3p2y =
        (- one_over60) · ((- τ) · p2w
        ⊖ (scaled_second_difference ((τ + τ) * ten_over3) p1y p2y p3y
        ⊕ ((- τ) · p2b2y ⊖ (τ * sqrt15_over3 * - τ) · (p1p2y ⊖ p3p2y))))

module _ {K : Type 0} (A : Arithmetic K) (n : ℕ) (k : Constants6 K) (τ : K) (P1 P2 P3 : Operator A n) where
  open A use {◌*◌}

  infixl 70 ◌*◌
  -- the operators of the formula, on vectors of n places
  abbrev pub B1 : Operator A n
  B1 = b1 (on_vectors A n) k τ P1 P2 P3

  abbrev pub B2 : Operator A n
  B2 = b2 (on_vectors A n) k τ P1 P2 P3

  abbrev pub B3 : Operator A n
  B3 = b3 (on_vectors A n) k τ P1 P2 P3

  abbrev pub C1 : Operator A n
  C1 = c1 (on_vectors A n) k τ P1 P2 P3

  abbrev pub C2 : Operator A n
  C2 = c2 (on_vectors A n) k τ P1 P2 P3

  -- 2 B3 + C1
  abbrev pub W : Operator A n
  W = two_b3_plus_c1 (on_vectors A n) k τ P1 P2 P3

  -- -20 B1 - B3 + C1 and B2 + C2
  abbrev pub Lop : Operator A n
  Lop = lop (on_vectors A n) k τ P1 P2 P3

  abbrev pub Rop : Operator A n
  Rop = rop (on_vectors A n) k τ P1 P2 P3

  -- the sums are the formula's operators at x
  pub second-difference-sum : (x : List K) → scaled_second_difference A n (τ * k.ten_over3) (P1 x) (P2 x) (P3 x) ≡ B3 x
  unfolding scaled_second_difference b3 second_difference
  second-difference-sum x = refl

  pub twice-first-plus : (x : List K) → twice_first_plus A n (B3 x) (C1 x) ≡ W x
  unfolding twice_first_plus two_b3_plus_c1
  twice-first-plus x = refl

  pub c2-sum : (x : List K)
      → c2_sum A n k τ (P2 (W x)) (P1 (B1 x)) (P2 (B1 x)) (P3 (B1 x)) (P2 (B2 (B1 x))) (P1 (P2 (B1 x))) (P3 (P2 (B1 x)))
      ≡ C2 x
  unfolding c2_sum scaled_second_difference b1 b2 c2 second_difference two_b3_plus_c1_of_b1
  c2-sum x = refl

  -- ---- what the parts of the kernel leave of a vector x in the work slice w, which has become w'

  -- B1x, B2x and B3x
  pub record BFormed (x w w' : List K) : Type 0 where
    pub b1x : part (9 *ℕ n) n w' ≡ B1 x
    pub b2x : part (10 *ℕ n) n w' ≡ B2 x
    pub b3x : part (11 *ℕ n) n w' ≡ B3 x
    pub kept : Kept n (6 *ℕ n) w w'

  -- these and C1x; and of what it was formed from, P1 y, P3 y and B2 y for y = B1 x
  pub record C1Formed (x w w' : List K) : Type 0 where
    pub b1x : part (9 *ℕ n) n w' ≡ B1 x
    pub b2x : part (10 *ℕ n) n w' ≡ B2 x
    pub b3x : part (11 *ℕ n) n w' ≡ B3 x
    pub c1x : part (13 *ℕ n) n w' ≡ C1 x
    pub p1y : part (7 *ℕ n) n w' ≡ P1 (B1 x)
    pub p3y : part (8 *ℕ n) n w' ≡ P3 (B1 x)
    pub b2y : part (12 *ℕ n) n w' ≡ B2 (B1 x)
    pub kept : Kept n (6 *ℕ n) w w'

  -- the vectors of the formula, with C2x
  pub record C2Formed (x w w' : List K) : Type 0 where
    pub b1x : part (9 *ℕ n) n w' ≡ B1 x
    pub b2x : part (10 *ℕ n) n w' ≡ B2 x
    pub b3x : part (11 *ℕ n) n w' ≡ B3 x
    pub c1x : part (13 *ℕ n) n w' ≡ C1 x
    pub c2x : part (20 *ℕ n) n w' ≡ C2 x
    pub kept : Kept n (6 *ℕ n) w w'

  -- (-20 B1 - B3 + C1) x
  pub record LopFormed (x w w' : List K) : Type 0 where
    pub lop-x : part (5 *ℕ n) n w' ≡ Lop x
    pub kept : Kept n (5 *ℕ n) w w'

  -- (B2 + C2) x
  pub record RopFormed (x w w' : List K) : Type 0 where
    pub rop-x : part (21 *ℕ n) n w' ≡ Rop x
    pub kept : Kept n (6 *ℕ n) w w'

  -- at v itself: B1 v + B3 v / 12, (-20 B1 - B3 + C1) v and (B2 + C2) v
  pub record AtVFormed (v w w' : List K) : Type 0 where
    pub linear : part (2 *ℕ n) n w' ≡ plus_scaled A n (B1 v) k.one_over12 (B3 v)
    pub lop-v : part (3 *ℕ n) n w' ≡ Lop v
    pub rop-v : part (4 *ℕ n) n w' ≡ Rop v
    pub kept : Kept n (2 *ℕ n) w w'
