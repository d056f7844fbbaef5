-- Whether every number formed is finite, a premise of demand 3, as one Bool. Document 01 coins the term (the paragraph
-- after "Plain run"): a number formed is the result of any operation by which a step's τ, sampled values, weights and
-- signal are brought to its answer. The definitions follow the formulas (Product.antt of the crate arithmetic, Operators.antt
-- of the crate magnus), and ask of the result of every operation in them that it is finite, at every place.
-- proofs/FormedIsFinite.antt shows what this comes to. FormedOmega6.antt has order 6. Assumes nothing.
use Rattle.std.specs.Prelude.{◌≡◌, Bool, ◌&&◌, List, Float}
use Rattle.std.proofs.Math.Path.{refl}
use Rattle.std.proofs.Math.Bool.{true}
use Prim.Native.Nat.{ℕ, zero, suc, ◌+◌ as ◌+ℕ◌, ◌-◌ as ◌-ℕ◌}
use Rattle.std.proofs.Math.ListN.{get_or}
use Rattle.std.specs.Float.{nan, Format}
use Rattle.std.specs.Float.Ieee.Scale.{finite}
use Rattle.rounding.specs.StepLength.{minus_half}
use Rattle.arithmetic.specs.Arithmetic.{ieee, at, vectors, scaled}
use Rattle.arithmetic.specs.Product.{sum_to, row_product}
use Rattle.magnus.specs.Operators.{Operator, weighted, omega4, power, taylor}
use Rattle.magnus.specs.OperatorArithmetic.{OperatorArithmetic, on_vectors}

-- an operator with, for each vector, whether every number that it forms of this vector is finite
pub record FormedOperator : Type 0 where
  pub apply : List Float → List Float
  pub formed : List Float → Bool

-- whether p holds at each of the places 0, 1, .., n - 1
unfoldable pub every_place : (ℕ → Bool) → ℕ → Bool
every_place p zero = true
every_place p (suc n) = every_place p n && p n

-- whether x is finite at each of n places
abbrev pub finite_vector : ℕ → List Float → Bool
finite_vector n x = every_place (λ i. finite (get_or x i nan)) n

-- ---- operations

module _ (f : Format) (n : ℕ) where
  open (on_vectors (ieee f) n).operators use {zero as zeros, past, ◌+◌, ◌-◌, ◌*◌ as ◌∘◌, -◌}

  infixl 60 ◌+◌ ◌-◌
  infixr 75 ◌∘◌
  infix 80 -◌
  -- an operator that gives an operation's result: what its operands form, and the result
  abbrev result : Operator (ieee f) n → (List Float → Bool) → FormedOperator
  result X operands = record { apply = X; formed = λ v. operands v && finite_vector n (X v) }

  -- Sums, differences, negatives and multiples have a result of their own. A composition has what the operators form,
  -- the second one of what the first one gave.
  abbrev pub formed_operators : OperatorArithmetic Float FormedOperator
  formed_operators = record {
    numbers = ieee f;
    operators = record {
      zero = record { apply = zeros; formed = λ v. true };
      past = record { apply = past; formed = λ v. true };
      ◌+◌ = λ X Y. result (X.apply + Y.apply) (λ v. X.formed v && Y.formed v);
      ◌-◌ = λ X Y. result (X.apply - Y.apply) (λ v. X.formed v && Y.formed v);
      ◌*◌ = λ X Y. record { apply = X.apply ∘ Y.apply; formed = λ v. Y.formed v && X.formed (Y.apply v) };
      -◌ = λ X. result (- X.apply) X.formed;
    };
    scale = λ s X. result ((on_vectors (ieee f) n).scale s X.apply) X.formed;
  }

-- ---- products

module _ (f : Format) where
  open ieee f use {◌*◌}

  infixl 70 ◌*◌
  -- a sum g 0 + .. + g (m - 1): each term, and the sum after each
  unfoldable pub formed_sum : (ℕ → Float) → ℕ → Bool
  formed_sum g zero = true
  formed_sum g (suc m) = formed_sum g m && finite (g m) && finite (sum_to (ieee f) g (suc m))

  -- row i of the product with x (01, part 1): each value times signal, and the sum after each
  unfoldable pub formed_row : List ℕ → List ℕ → List Float → List Float → ℕ → Bool
  unfolding formed_sum
  formed_row starts cols vals x i =
      let lo = get_or starts i 0 in
      let hi = get_or starts (i +ℕ 1) 0 in
      formed_sum (λ j. at (ieee f) vals (lo +ℕ j) * at (ieee f) x (get_or cols (lo +ℕ j) 0)) (hi -ℕ lo)

module _ (f : Format) (n : ℕ) where
  open vectors (ieee f) n use {◌*◌ as ◌⊙◌}

  infixl 70 ◌⊙◌
  -- the product with a sample
  abbrev pub formed_product : List ℕ → List ℕ → List Float → FormedOperator
  formed_product starts cols vals = record {
    apply = row_product (ieee f) n starts cols vals;
    formed = λ x. every_place (formed_row f starts cols vals x) n;
  }

  -- the weighted product (01, part 5): the roots, root · v, what P forms of it, and root · (P (root · v))
  abbrev pub formed_weighted : List Float → FormedOperator → FormedOperator
  formed_weighted root P = record {
    apply = weighted (ieee f) n root P.apply;
    formed = λ v.
        let x = root ⊙ v in
        finite_vector n root && finite_vector n x && P.formed x && finite_vector n (root ⊙ P.apply x);
  }

  -- ---- Taylor sums

  -- The Taylor sum (01, part 6): for each k from 1 to d what W forms of its power k - 1, c k times its power k, and the
  -- sum so far.
  unfoldable pub formed_terms : (ℕ → Float) → ℕ → FormedOperator → List Float → Bool
  unfolding power taylor
  formed_terms c zero W v = true
  formed_terms c (suc d) W v =
      let u = power (ieee f) n W.apply d v in
      formed_terms c d W v && W.formed u && finite_vector n (scaled (ieee f) n (c (suc d)) (W.apply u))
      && finite_vector n (taylor (ieee f) n c (suc d) W.apply v)

  abbrev pub formed_taylor : (ℕ → Float) → ℕ → FormedOperator → FormedOperator
  formed_taylor c d W = record { apply = taylor (ieee f) n c d W.apply; formed = formed_terms c d W }

-- ---- steps of order 4

module _ (f : Format) (n : ℕ) where
  open ieee f use {◌*◌}
  open (formed_operators f n).operators use {◌+◌, ◌-◌, ◌*◌ as ◌∘◌}

  infixl 60 ◌+◌ ◌-◌
  infixr 65 ◌·◌
  infixl 70 ◌*◌
  infixr 75 ◌∘◌
  abbrev ◌·◌ : Float → FormedOperator → FormedOperator
  ◌·◌ = (formed_operators f n).scale

  -- Ω (01, part 6), over these operators: (-0.5 · τ) · (P1 + P2), plus (((sign · s) · τ) · τ) · (P2 P1 - P1 P2)
  abbrev exponent4 : Float → Float → Float → Float → FormedOperator → FormedOperator → FormedOperator
  exponent4 minus_half s sign τ P1 P2 = (minus_half * τ) · (P1 + P2) + (sign * s * τ * τ) · (P2 ∘ P1 - P1 ∘ P2)

  -- Ωv: -0.5 · τ; sign · s, that times τ, that times τ; and the result of every operation on vectors
  abbrev pub formed_omega4 : Float → Float → Float → Float → FormedOperator → FormedOperator → FormedOperator
  formed_omega4 minus_half s sign τ P1 P2 = record {
    apply = omega4 (ieee f) n minus_half s sign τ P1.apply P2.apply;
    formed = λ v.
        finite (minus_half * τ) && finite (sign * s) && finite (sign * s * τ) && finite (sign * s * τ * τ)
        && (exponent4 minus_half s sign τ P1 P2).formed v;
  }

  -- over these operators Ω is what omega4 is
  pub formed-omega4-apply : (minus_half s sign τ : Float) (P1 P2 : FormedOperator)
      → (exponent4 minus_half s sign τ P1 P2).apply ≡ (formed_omega4 minus_half s sign τ P1 P2).apply
  unfolding omega4
  formed-omega4-apply minus_half s sign τ P1 P2 = refl

  -- The step (01, parts 6 to 8) with the products P1 and P2. Its degree d is 4 and its coefficients c k are 1 / k!
  -- (Coefficients.antt).
  abbrev pub formed_step4 : (ℕ → Float) → ℕ → Float → Float → Float → FormedOperator → FormedOperator → FormedOperator
  formed_step4 c d s sign τ P1 P2 = formed_taylor f n c d (formed_omega4 minus_half s sign τ P1 P2)
