-- The laws behind `is_finite` and `both_finite`: the library's test is that of the contracts, and of two values the differences from themselves equal
-- each other exactly when both are finite. Assumes nothing.
use mathlib.Core.Path.{◌≡◌, refl, ap, ap₂}
use mathlib.Core.Bool.{true, false, ◌&&◌}
use lib.Ieee.{Float, nan, inf, fin, binary64, sub, eq, of_bits}
use lib.Ieee.Scale.{finite}
use Rattle.std.specs.Float.{float_is_finite}
use Rattle.rounding.proofs.Zeros.{sub-self-zero}

-- the library's test
pub library-finite : (x : Float) → float_is_finite x ≡ finite x
unfolding float_is_finite
library-finite nan = refl
library-finite (inf s) = refl
library-finite (fin s m e) = refl

pub finite-by-two-differences : (x y : Float) → eq (sub binary64 x x) (sub binary64 y y) ≡ (finite x && finite y)
unfolding eq sub of_bits
finite-by-two-differences nan y = refl
finite-by-two-differences (inf true) y = refl
finite-by-two-differences (inf false) y = refl
finite-by-two-differences (fin s m e) nan = ap (λ (z : Float). eq z nan) (sub-self-zero binary64 (fin s m e) tt)
finite-by-two-differences (fin s m e) (inf true) = ap (λ (z : Float). eq z nan) (sub-self-zero binary64 (fin s m e) tt)
finite-by-two-differences (fin s m e) (inf false) = ap (λ (z : Float). eq z nan) (sub-self-zero binary64 (fin s m e) tt)
finite-by-two-differences (fin s m e) (fin t n f) =
    ap₂ eq (sub-self-zero binary64 (fin s m e) tt) (sub-self-zero binary64 (fin t n f) tt)
