-- The signs of order 6. Over exact numbers, for linear products P1, P2 and P3, the formula that the code computes (01,
-- part 9) is the published one with Ai = -Pi. B1, B2 and B3 are the published ones place by place; what the Rust forms
-- for (2 B3 + C1) B1 is that operator, since P1 and P3 are linear; the rest is the same text. Assumes nothing.
use mathlib.Core.Path.{◌≡◌, sym, ap, ap₂, ◌∙◌}
use mathlib.Core.List.{List}
use Prim.Native.Nat.{ℕ, zero as none, suc, ◌<◌}
use Rattle.arithmetic.specs.Arithmetic.{Arithmetic, at, vectors, scaled}
use Rattle.arithmetic.specs.Product.{sum_to}
use Rattle.arithmetic.proofs.Tabulate.{tabulate-same}
use Rattle.arithmetic.proofs.Product.{at-tabulate}
use Rattle.magnus.specs.Operators.{Operator}
use Rattle.magnus.specs.OperatorArithmetic.{OperatorArithmetic, operators, on_vectors}
use Rattle.magnus.specs.Omega6.{Constants6, b1, b2, second_difference, b3, c1, two_b3_plus_c1, two_b3_plus_c1_of_b1}
use Rattle.magnus.specs.Omega6.{c2, lop, rop, omega6}
use Rattle.magnus.specs.Ring.{Ring, Linear}
use Rattle.magnus.specs.Published.{times, commutator, order6, AsPublished6}
use Rattle.magnus.proofs.Vectors.{zero-add, add-mul, neg-neg, neg-add, mul-neg, neg-mul}

module _ {K : Type 0} {A : Arithmetic K} (R : Ring A) (n : ℕ) where
  open A use {◌+◌, ◌*◌, -◌}
  open vectors A n use {◌+◌ as ◌⊕◌, ◌-◌ as ◌⊖◌, -◌ as ⊖◌}
  open R use {add_assoc, add_comm, sub-eq-add-neg, mul_assoc, mul_comm, mul-add}

  infixl 60 ◌+◌ ◌⊕◌ ◌⊖◌
  infixr 65 ◌·◌
  infixl 70 ◌*◌
  infix 80 -◌ ⊖◌
  abbrev ◌·◌ : K → List K → List K
  ◌·◌ = scaled A n

  -- m times an operator, at a place
  times-at : (m : ℕ) (X : Operator A n) (v : List K) (i : ℕ) → i < n
      → at A (times (operators A n) m X v) i ≡ times A m (at A (X v) i)
  unfolding sum_to
  times-at none X v i h = at-tabulate A _ n i h
  times-at (suc m) X v i h = at-tabulate A _ n i h ∙ ap (◌+ at A (X v) i) (times-at m X v i h)

  -- the factors of (2 B3 + C1) B1
  doubled : (s t : K) (x : List K) → ((s + s) * t) · x ≡ (s * t) · x ⊕ (s * t) · x
  doubled s t x = tabulate-same _ _ n (λ i h. simp (at-tabulate A, add-mul R))

  joined : (s t : K) (x z : List K) → (s * t) · (x ⊖ z) ≡ s · (t · x ⊖ t · z)
  joined s t x z = tabulate-same _ _ n (λ i h. simp (at-tabulate A, sub-eq-add-neg, mul-neg R, mul-add, mul_assoc))

  module _ (k : Constants6 K) (τ : K) (P1 P2 P3 : Operator A n) (linear1 : Linear A n P1) (linear3 : Linear A n P3) where
    open operators A n use { -◌ as minus}

    abbrev S : OperatorArithmetic K (Operator A n)
    S = on_vectors A n

    -- the published B1, B2 and B3
    abbrev B1 : Operator A n
    B1 x = τ · ⊖ P2 x

    abbrev B2 : Operator A n
    B2 x = (k.sqrt15_over3 * τ) · (⊖ P3 x ⊖ ⊖ P1 x)

    abbrev B3 : Operator A n
    B3 x = (k.ten_over3 * τ) · (⊖ P3 x ⊖ times (operators A n) 2 (minus P2) x ⊕ ⊖ P1 x)

    b1-is : (x : List K) → b1 S k τ P1 P2 P3 x ≡ B1 x
    unfolding b1
    b1-is x = tabulate-same _ _ n (λ i h. simp (at-tabulate A, neg-mul R, mul-neg R))

    b2-is : (x : List K) → b2 S k τ P1 P2 P3 x ≡ B2 x
    unfolding b2
    b2-is x = tabulate-same _ _ n (λ i h. simp (at-tabulate A, sub-eq-add-neg, neg-neg R, add_comm, mul_comm))

    b3-is : (x : List K) → b3 S k τ P1 P2 P3 x ≡ B3 x
    unfolding b3 second_difference sum_to
    b3-is x =
        tabulate-same _ _ n
        (λ i h. simp (at-tabulate A, sub-eq-add-neg, zero-add R, neg-add R, neg-neg R, add_assoc, mul_comm))

    -- 2 B3
    twice-is : (x : List K) → B3 x ⊕ B3 x ≡ times (operators A n) 2 B3 x
    unfolding sum_to
    twice-is x = tabulate-same _ _ n (λ i h. simp (at-tabulate A, zero-add R))

    -- -20 B1
    minus-twenty-is : ((x : K) → k.minus_twenty * x ≡ - times A 20 x) → (x : List K)
        → k.minus_twenty · B1 x ≡ ⊖ times (operators A n) 20 B1 x
    minus-twenty-is twenty x =
        tabulate-same _ _ n (λ i h. twenty (at A (B1 x) i) ∙ ap -◌ (sym (times-at 20 B1 x i h)))

    -- (2 B3 + C1) B1
    of-b1-is : (x : List K)
        → two_b3_plus_c1_of_b1 S k τ P1 P2 P3 x ≡ two_b3_plus_c1 S k τ P1 P2 P3 (b1 S k τ P1 P2 P3 x)
    unfolding two_b3_plus_c1_of_b1 two_b3_plus_c1 c1 b1 b2 b3
    of-b1-is x =
        let y = b1 S k τ P1 P2 P3 x in
        let minuend = b1 S k τ P1 P2 P3 (b2 S k τ P1 P2 P3 y) in
        ap₂ (λ p q. p ⊕ (minuend ⊖ q)) (doubled τ k.ten_over3 (second_difference S k τ P1 P2 P3 y))
        (joined (τ * k.sqrt15_over3) (- τ) (P1 (P2 y)) (P3 (P2 y))
        ∙ ap₂ (λ p q. (τ * k.sqrt15_over3) · (p ⊖ q)) (sym (linear1.of-multiple (- τ) (P2 y)))
        (sym (linear3.of-multiple (- τ) (P2 y))))

    -- C1, 2 B3 + C1, C2 and Ω are the published ones by their text
    abbrev C1 : Operator A n
    C1 = commutator A n B1 B2

    abbrev TwoB3PlusC1 : Operator A n
    TwoB3PlusC1 x = times (operators A n) 2 B3 x ⊕ C1 x

    c1-is : (x : List K) → c1 S k τ P1 P2 P3 x ≡ C1 x
    unfolding c1 commutator
    c1-is x = simp (b1-is, b2-is)

    two-b3-plus-c1-is : (x : List K) → two_b3_plus_c1 S k τ P1 P2 P3 x ≡ TwoB3PlusC1 x
    unfolding two_b3_plus_c1
    two-b3-plus-c1-is x = simp (b3-is, twice-is, c1-is)

    c2-is : (x : List K) → c2 S k τ P1 P2 P3 x ≡ (- k.one_over60) · commutator A n B1 TwoB3PlusC1 x
    unfolding c2 commutator
    c2-is x = simp (of-b1-is, b1-is, two-b3-plus-c1-is)

    pub omega6-as-published : AsPublished6 A n k τ P1 P2 P3
    unfolding omega6 lop rop order6 commutator
    omega6-as-published twenty v = simp (b1-is, b2-is, b3-is, c1-is, c2-is, minus-twenty-is twenty)
