-- `root` meets its contract: the digits found are those of the definition, and their pattern stands for its value.
use mathlib.Core.Path.{◌≡◌, sym, ap, ◌∙◌, subst}
use mathlib.Core.Bool.{not}
use Prim.Native.Nat.{ℕ, ◌+◌, ◌*◌}
use native.Mathlib.Omega.{arith}
use lib.Dec.{T, lit≤}
use lib.IntN.{ℤ, pos, nat_abs, ◌+ℤ◌}
use lib.Ieee.{binary64, of_bits, nan_bits}
use mir.Syntax.{w64}
use mir.Val.{SFits, of_z, to_z}
use Rattle.ieee_square_root.specs.Steps.{Scaled}
use Rattle.ieee_square_root.proofs.Exponent.{small, read_back, offset-fits}
use Rattle.ieee_square_root.proofs.FromDigits.{root_is, pattern-small}
use Rattle.square_root_bits.proofs.kernel.PositiveFinite.root.Goals as goal

-- what the machine reads back from a signed local's bits
abbrev read : ℤ → ℤ
read z = to_z w64 (of_z w64 z)

module _ {bits d : ℕ} {h : ℤ} (v : Scaled bits d h) where
  sum_is : read h +ℤ pos 1022 ≡ pos v.place
  sum_is = ap (λ (z : ℤ). z +ℤ pos 1022) (read_back (offset-fits h 1022 v.place v.at (lit≤ tt) (omega (arith, v.most)))) ∙ v.at

  sum_fits : SFits w64 (read h +ℤ pos 1022)
  sum_fits = subst (λ (z : ℤ). SFits w64 z) (sym sum_is) record { sfits = small (omega (arith, v.most)) }

  place_is : nat_abs (read (read h +ℤ pos 1022)) ≡ v.place
  place_is = ap nat_abs (read_back sum_fits ∙ sum_is)

pub float_from_bits-result : goal.float_from_bits-result
float_from_bits-result c =
    let v = c.scaled-x.ensures in
    let q = c.settled-digits.ensures in
    subst (λ (place : ℕ). T (not (nan_bits binary64 (place * 4503599627370496 + c.settled-digits.result)))) (sym (place_is v)) (pattern-small v q)

pub returns : goal.returns
returns c =
    let v = c.scaled-x.ensures in
    let q = c.settled-digits.ensures in
    let known = c.args.self.in_range in
    ap (λ (place : ℕ). of_bits binary64 (place * 4503599627370496 + c.settled-digits.result)) (place_is v) ∙ root_is v q known.0 known.1
