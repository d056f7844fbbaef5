-- `scaled` meets its contract: what is left of the exponent when its half is taken away is the half again exactly where the exponent is even,
-- and an odd exponent's factor 2 goes to the digits.
use mathlib.Core.Path.{◌≡◌, sym, ap, ◌∙◌, subst}
use Prim.Native.Nat.{ℕ, ◌*◌}
use lib.IntN.{ℤ, ◌-ℤ◌}
use mir.Syntax.{w64}
use mir.Val.{SFits, of_z, to_z}
use Rattle.ieee_square_root.specs.Steps.{half_down, Normalized, Scaled}
use Rattle.ieee_square_root.proofs.Exponent.{read_back}
use Rattle.ieee_square_root.proofs.Halving.{placed, exponent-fits, half-fits, even_is, odd_is, equal-bits-rest, rest-bits-equal}
use Rattle.square_root_bits.proofs.kernel.PositiveFinite.scaled.Goals as goal
use Rattle.square_root_bits.proofs.kernel.PositiveFinite.scaled.Goals.{then-x-half, else-x-half}

-- what the machine reads back from a signed local's bits
abbrev read : ℤ → ℤ
read z = to_z w64 (of_z w64 z)

module _ {bits s : ℕ} {e h : ℤ} (v : Normalized bits s e) (is : h ≡ half_down (read e)) where
  exponent-read : read e ≡ e
  exponent-read = read_back (exponent-fits v.most (placed e v.at))

  half_is : h ≡ half_down e
  half_is = is ∙ ap half_down exponent-read

  half-read : read h ≡ h
  half-read = read_back (subst (λ (z : ℤ). SFits w64 z) (sym half_is) (half-fits v.most (placed e v.at)))

  rest-is : read e -ℤ read h ≡ e -ℤ h
  rest-is = λ i. exponent-read i -ℤ half-read i

  halved : {d : ℕ} → Scaled bits d (half_down e) → Scaled bits d (read h)
  halved {d} = subst (λ (z : ℤ). Scaled bits d z) (sym (half-read ∙ half_is))

  with-even : {d : ℕ} → d ≡ s → of_z w64 (read e -ℤ read h) ≡ of_z w64 h → Scaled bits d (read h)
  with-even k t =
      halved (subst (λ (n : ℕ). Scaled bits n (half_down e)) (sym k)
      (even_is bits s e v (equal-bits-rest e h (read e -ℤ read h) v.most (placed e v.at) half_is rest-is t)))

  with-odd : {d : ℕ} → d ≡ 2 * s → (of_z w64 (read e -ℤ read h) ≡ of_z w64 h → ⊥) → Scaled bits d (read h)
  with-odd k t =
      halved (subst (λ (n : ℕ). Scaled bits n (half_down e)) (sym k)
      (odd_is bits s e v (λ same. t (rest-bits-equal e h (read e -ℤ read h) half_is rest-is same))))

pub returns : goal.returns
returns c =
    let v = c.normalized-x.ensures in
    let h = c.floor_half-half.ensures in elim c.if-x-half.branch [
      | then-x-half w ↦ with-even v h w.digits-is w.if-x-half.true
      | else-x-half w ↦ with-odd v h w.digits-is w.if-x-half.false
    ]
