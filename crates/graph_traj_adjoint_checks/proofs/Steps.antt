-- An adjoint run with no steps and one with steps make different checks: which of the two the definition means. Assumes nothing.
use mathlib.Core.Path.{◌≡◌, sym, ap, ◌∙◌}
use mathlib.Core.Bool.{Bool, cond}
use Prim.Native.Nat.{ℕ}
use lib.Dec.{eqb}
use borrow.Author.Tests.{eq-eqb, ne_eqb}
use Rattle.error.specs.Answer.{Checked}

module _ (steps : ℕ) (answer none some : Checked) where
  pub no_steps : steps ≡ 0 → answer ≡ none → answer ≡ cond (eqb steps 0) none some
  no_steps z h = h ∙ sym (ap (λ (b : Bool). cond b none some) (eq-eqb steps 0 z))

  pub some-steps : (steps ≡ 0 → ⊥) → answer ≡ some → answer ≡ cond (eqb steps 0) none some
  some-steps n h = h ∙ sym (ap (λ (b : Bool). cond b none some) (ne_eqb steps 0 n))
