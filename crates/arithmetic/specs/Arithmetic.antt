-- The arithmetic in which a formula is read. Each formula has one text, over any arithmetic: over the rounded
-- operations of a format it is what the code computes, over exact numbers what the publication says, and over vectors,
-- place by place, it needs no indices.
use Rattle.std.specs.Prelude.{◌≡◌, refl, List, ℕ, get_or, Float}
use Rattle.std.specs.Float.Ieee
use Rattle.std.specs.Float.{Format, binary32, binary64}
use Rattle.rounding.specs.SignOfZero.{+0}
use Rattle.arithmetic.specs.Vector.{tabulate}

-- values of type K with the operations that the formulas use
pub record Arithmetic (K : Type 0) : Type 0 where
  -- what a sum starts from
  pub zero : K
  -- what a read past a vector's end gives
  pub past : K
  pub ◌+◌ : K → K → K
  pub ◌-◌ : K → K → K
  pub ◌*◌ : K → K → K
  pub -◌ : K → K

-- the rounded operations of a format (IEEE 754); past a vector's end the program logic reads nan
abbrev pub ieee : Format → Arithmetic Float
ieee f = record {
  zero = Ieee.of_bits f 0;
  past = Ieee.nan;
  ◌+◌ = Ieee.add f;
  ◌-◌ = Ieee.sub f;
  ◌*◌ = Ieee.mul f;
  -◌ = Ieee.neg;
}

-- a sum of floats starts from +0
pub ieee-zero : (f : Format) → (ieee f).zero ≡ +0
unfolding Ieee.of_bits
ieee-zero binary32 = refl
ieee-zero binary64 = refl

module _ {K : Type 0} (A : Arithmetic K) where
  open A use {zero, past, ◌+◌, ◌-◌, ◌*◌, -◌}

  infixl 60 ◌+◌ ◌-◌
  infixl 70 ◌*◌
  infix 80 -◌
  -- x at place i
  abbrev pub at : List K → ℕ → K
  at x i = get_or x i past

  -- vectors of n places: every operation place by place
  abbrev pub vectors : ℕ → Arithmetic (List K)
  vectors n = record {
    zero = tabulate (λ i. zero) n;
    past = tabulate (λ i. past) n;
    ◌+◌ = λ x y. tabulate (λ i. at x i + at y i) n;
    ◌-◌ = λ x y. tabulate (λ i. at x i - at y i) n;
    ◌*◌ = λ x y. tabulate (λ i. at x i * at y i) n;
    -◌ = λ x. tabulate (λ i. - at x i) n;
  }

  -- s times x, at each of n places
  abbrev pub scaled : ℕ → K → List K → List K
  scaled n s x = tabulate (λ i. s * at x i) n

  -- x times y, at each of n places
  abbrev pub multiplied : ℕ → List K → List K → List K
  multiplied n = (vectors n).◌*◌

  -- x plus y and x less y, at each of n places
  abbrev pub added : ℕ → List K → List K → List K
  added n = (vectors n).◌+◌

  abbrev pub subtracted : ℕ → List K → List K → List K
  subtracted n = (vectors n).◌-◌
