-- Whether every number formed by a step of order 6 is finite (01, demand 3 and part 9): magnus's formula (Omega6.antt), read
-- over the operators of Formed.antt, which tell of each result whether it is finite. Assumes nothing.
use Rattle.std.specs.Prelude.{◌≡◌, Bool, ◌&&◌, ℕ, Float}
use Rattle.std.proofs.Math.Path.{refl}
use Rattle.std.specs.Float.{Format}
use Rattle.std.specs.Float.Ieee.Scale.{finite}
use Rattle.arithmetic.specs.Arithmetic.{ieee}
use Rattle.magnus.specs.OperatorArithmetic.{on_vectors}
use Rattle.magnus.specs.Omega6.{Constants6, b1, b2, second_difference, b3, c1, two_b3_plus_c1, two_b3_plus_c1_of_b1}
use Rattle.magnus.specs.Omega6.{c2, lop, rop, omega6}
use Rattle.magnus_plain_sum.specs.Formed.{FormedOperator, formed_operators, formed_taylor}

module _ (f : Format) where
  open ieee f use {◌+◌, ◌*◌, -◌}

  infixl 60 ◌+◌
  infixl 70 ◌*◌
  infix 80 -◌
  -- the factors that are formed from τ and the constants
  abbrev pub formed_factors6 : Constants6 Float → Float → Bool
  formed_factors6 k τ =
      finite (- τ) && finite (τ * k.sqrt15_over3) && finite (τ * k.ten_over3)
      && finite (τ + τ) && finite ((τ + τ) * k.ten_over3) && finite (τ * k.sqrt15_over3 * - τ)
      && finite (- k.one_over60)

module _ (f : Format) (n : ℕ) where
  -- Ωv: the factors, and the result of every operation
  abbrev pub formed_omega6 : Constants6 Float → Float → (P1 P2 P3 : FormedOperator) → FormedOperator
  formed_omega6 k τ P1 P2 P3 = record {
    apply = omega6 (on_vectors (ieee f) n) k τ P1.apply P2.apply P3.apply;
    formed = λ v. formed_factors6 f k τ && (omega6 (formed_operators f n) k τ P1 P2 P3).formed v;
  }

  -- over these operators Ω is what it is over vectors
  pub formed-omega6-apply : (k : Constants6 Float) (τ : Float) (P1 P2 P3 : FormedOperator)
      → (omega6 (formed_operators f n) k τ P1 P2 P3).apply ≡ (formed_omega6 k τ P1 P2 P3).apply
  unfolding omega6 lop rop c2 two_b3_plus_c1_of_b1 two_b3_plus_c1 c1 b3 second_difference b2 b1
  formed-omega6-apply k τ P1 P2 P3 = refl

  -- The step with the products P1, P2 and P3. Its degree d is 6 and its coefficients c k are 1 / k! (Coefficients.antt).
  abbrev pub formed_step6 : (ℕ → Float) → ℕ → Constants6 Float → Float → (P1 P2 P3 : FormedOperator) → FormedOperator
  formed_step6 c d k τ P1 P2 P3 = formed_taylor f n c d (formed_omega6 k τ P1 P2 P3)
