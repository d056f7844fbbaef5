-- The Taylor sum of a step of law 2 (01, part 7), term by term, where the signal of the next term is scaled by the roots r. Assumes nothing.
use mathlib.Core.Path.{◌≡◌, refl, sym, ap, ◌∙◌, subst}
use mathlib.Core.List.{List}
use Prim.Native.Nat.{ℕ, suc, ◌+◌, ◌≤◌, ◌<◌}
use native.Mathlib.Numerals.{add-one}
use native.Mathlib.Omega.{arith}
use lib.Ieee.{Float, binary64}
use Rattle.arithmetic.specs.Arithmetic.{Arithmetic, ieee}
use Rattle.arithmetic.specs.Product.{plus_scaled}
use Rattle.magnus.specs.Operators.{Operator, power, taylor}
use Rattle.varcoef_magnus_graph_traj_step.specs.SignalScaled.{SignalScaled, ScaledTermAdded}

abbrev A : Arithmetic Float
A = ieee binary64

-- the coefficients c, the operator W and the vector v of which the sum is taken
module _ (n : ℕ) (c : ℕ → Float) (r : List Float) (W : Operator A n) (v : List Float) where
  -- of four terms k have been added to v, and the next one is formed of Wᵏv
  pub record Turns (k : ℕ) (total pairs : List Float) : Type 0 where
    pub turns : k ≤ 4
    pub sum : total ≡ taylor A n c k W v
    pub scaled : SignalScaled n r (power A n W k v) pairs

  -- before the first one the signal was scaled
  pub turns-none : {scaled : List Float} → SignalScaled n r v scaled → Turns 0 v scaled
  unfolding taylor power
  turns-none begun = record { turns = omega arith; sum = refl; scaled = begun }

  -- one more
  pub turns_next : {k : ℕ} {sum scaled : List Float} → Turns k sum scaled → k < 4 → {coefficient : Float} {sum' scaled' : List Float}
      → coefficient ≡ c (k + 1)
      → ScaledTermAdded n r W coefficient sum scaled sum' scaled'
      → Turns (k + 1) sum' scaled'
  unfolding taylor power plus_scaled
  turns_next {k} before more {sum' = sum'} {scaled'} e term =
      let u = power A n W k v in
      let next : suc k ≡ k + 1 = sym (add-one k) in
      subst (λ j. Turns j sum' scaled') next
      (record {
        turns = more;
        sum = rw (term.sum u before.scaled, e ∙ ap c (sym next), before.sum);
        scaled = term.image u before.scaled;
      })

  -- after the last one
  pub turns-all : {k : ℕ} {total pairs : List Float} → Turns k total pairs → 4 ≤ k → total ≡ taylor A n c 4 W v
  turns-all {k} before last =
      let all : k ≡ 4 = let turns = before.turns in omega arith in
      before.sum ∙ ap (λ j. taylor A n c j W v) all

  -- the four terms of a step
  pub four-terms : {s₀ v₁ s₁ v₂ s₂ v₃ s₃ v₄ s₄ : List Float} {c1 c2 c3 c4 : Float}
      → (c1 ≡ c 1) × (c2 ≡ c 2) × (c3 ≡ c 3) × (c4 ≡ c 4)
      → SignalScaled n r v s₀
      → ScaledTermAdded n r W c1 v s₀ v₁ s₁
      → ScaledTermAdded n r W c2 v₁ s₁ v₂ s₂
      → ScaledTermAdded n r W c3 v₂ s₂ v₃ s₃
      → ScaledTermAdded n r W c4 v₃ s₃ v₄ s₄
      → v₄ ≡ taylor A n c 4 W v
  four-terms coefficients begun first second third fourth =
      let one = turns_next (turns-none begun) (omega arith) coefficients.0 first in
      let two = turns_next one (omega arith) coefficients.1 second in
      let three = turns_next two (omega arith) coefficients.2 third in
      turns-all (turns_next three (omega arith) coefficients.3 fourth) (omega arith)
