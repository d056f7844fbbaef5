-- Equality up to the sign of a zero. Document 01 coins the term for demand 3 (the paragraph after "Plain run"): the
-- same bits, two zeros or two NaNs. A value here is a number with its sign, an infinity, or the one `nan`, whatever its
-- bits are in the machine; so two NaNs are equal. In proofs/SignOfZero.antt `same-is` says that `Same` is this
-- relation, and `equal-bits` that equal values of a format are those with equal bits. Assumes nothing.
use Rattle.std.specs.Prelude.{◌≡◌, false, zero, suc, pos, Float}
use Rattle.std.specs.Float.{nan, inf, fin}

-- the positive zero
abbrev pub +0 : Float
+0 = fin false 0 (pos 0)

-- x is +0 or -0
abbrev pub Zero : Float → Type 0
Zero nan = ⊥
Zero (inf s) = ⊥
Zero (fin s zero e) = Unit {0}
Zero (fin s (suc m) e) = ⊥

-- x, with a zero made +0
unfoldable pub plus_zero : Float → Float
plus_zero nan = nan
plus_zero (inf s) = inf s
plus_zero (fin s zero e) = +0
plus_zero (fin s (suc m) e) = fin s (suc m) e

-- x and y are equal up to the sign of a zero (01, demand 3).
-- A record, and not the equation itself, so that its two values can be implicit arguments.
pub record Same (x y : Float) : Type 0 where
  pub path : plus_zero x ≡ plus_zero y
