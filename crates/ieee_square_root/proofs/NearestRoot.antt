-- The theorems about `squareRoot`: its result is the value of the format that is nearest to the root (`square_root-is`),
-- only one value is nearest (`nearest-root-unique`), and the result always fits (`square_root-fits`). Assumes nothing.
use mathlib.Core.Path.{◌≡◌, refl, sym, ap, subst}
use mathlib.Core.Bool.{Bool, true, false, cond}
use Prim.Native.Nat.{ℕ, zero, suc, ◌+◌, ◌*◌, ◌^◌, ◌≤◌, ◌<◌, compare}
use native.Mathlib.Nat.{le_refl, le_trans, le_antisymm, le_of_eq, le_of_lt, le_of_suc-le-suc, lt_irrefl, lt_of_not-le}
use native.Mathlib.Nat.{lt_of_le_of_lt, lt_of_lt_of_le, add_comm, mul_right_comm, mul-lt-mul_of_pos_right}
use native.Mathlib.Nat.{div-eq_of_eq-mul_left}
use lib.IntN.{ℤ}
use lib.Dec.{T, ltb, ltb→lt}
use lib.Pow.{pow_pos, pow-lt}
use lib.Ieee.{Float, nan, inf, fin, Format, prec, emax, low, up, down, odd, units, fits}
use lib.Ieee.Fits.{two, reach, two-le_pos, down_pos, odd-fits, nan-fits, inf-fits, nearest-le}
use lib.Ieee.Exact.{HasValue, units_val}
use lib.Ieee.Scale.{overflow}
use Rattle.rounding.proofs.Value.{parts, place, place-value, unique}
use Rattle.ieee_square_root.specs.SquareRoot.{round_root, square_root, in_units, NearestRoot}
use Rattle.ieee_square_root.proofs.RoundedRoot.{four-pow-pos, dropped_digits, scaled_divisor, truncated_root}
use Rattle.ieee_square_root.proofs.RoundedRoot.{truncated-lower, truncated-upper, truncated-lt, truncated-full}
use Rattle.ieee_square_root.proofs.RoundedRoot.{rounded_root, Tie, nearest-rounds}
use Rattle.ieee_square_root.proofs.NoTie.{no_tie}
use Rattle.ieee_square_root.proofs.NoOverflow.{no_overflow}
use Rattle.ieee_square_root.proofs.ValuesAround.{OfDigits, farther-above, farther-below}

-- ---- a value in units of the format's smallest one

-- the division in `in_units` is exact for a value that fits
in_units-place : (f : Format) (s : Bool) (m : ℕ) (e : ℤ)
    → T (fits f (fin s m e))
    → in_units f (fin s m e) ≡ m * 2 ^ place (low f) e
in_units-place f s m e h = div-eq_of_eq-mul_left (down_pos e) (place-value f m e (parts f s m e h))

-- so what it gives is a number of `prec` digits at most, times a power of 2
in_units-digits : (f : Format) (w : Float) → T (fits f w) → OfDigits (prec f) (in_units f w)
in_units-digits f nan h = record { significand = 0; exponent = 0; few = pow_pos (prec f); is = refl }
in_units-digits f (inf s) h = record { significand = 0; exponent = 0; few = pow_pos (prec f); is = refl }
in_units-digits f (fin s m e) h = record {
  significand = m;
  exponent = place (low f) e;
  few = (parts f s m e h).digits;
  is = in_units-place f s m e h;
}

in_units-of-value : (f : Format) (z : Float) (s : Bool) (a : ℕ) → HasValue z s a (2 ^ low f) → in_units f z ≡ a
in_units-of-value f nan s a v = absurd v
in_units-of-value f (inf t) s a v = absurd v
in_units-of-value f (fin t m e) s a v = div-eq_of_eq-mul_left (down_pos e) v.1

-- ---- what `round_root` gives

pub round_root-is : (f : Format) (num den : ℕ)
    → let n = num * 4 ^ low f in
    round_root f num den ≡ units f false (rounded_root (prec f) n den) (dropped_digits (prec f) n den)
unfolding round_root
round_root-is f num den = refl

units-fits : (f : Format) (s : Bool) (q k : ℕ) → q ≤ 2 ^ prec f → T (fits f (units f s q k))
unfolding units
units-fits f s q k h = by-test (ltb (q * 2 ^ k) (overflow f)) (ltb→lt (q * 2 ^ k) (overflow f))
  where
    by-test : (b : Bool)
        → (T b → q * 2 ^ k < overflow f)
        → T (fits f (cond b (odd (suc (prec f)) s q k (low f)) (inf s)))
    by-test true below =
        odd-fits f (suc (prec f)) s q k (lt_of_le_of_lt h (pow-lt (le_refl (suc (prec f))))) h (below tt)
    by-test false below = inf-fits f s

pub round_root-fits : (f : Format) (num den : ℕ) → 0 < den → T (fits f (round_root f num den))
round_root-fits f num den den_pos =
    let n = num * 4 ^ low f in
    let u = scaled_divisor (prec f) n den in
    let q = truncated_root (prec f) n den in
    subst (λ (z : Float). T (fits f z)) (sym (round_root-is f num den))
    (units-fits f false (rounded_root (prec f) n den) (dropped_digits (prec f) n den)
    (le_trans (nearest-le q (compare (n * 4) ((2 * q + 1) * (2 * q + 1) * u))) (truncated-lt (prec f) n den den_pos)))

-- the result in units of the format's smallest value
abbrev root_units : Format → ℕ → ℕ → ℕ
root_units f num den =
    let n = num * 4 ^ low f in
    rounded_root (prec f) n den * 2 ^ dropped_digits (prec f) n den

-- ---- it is the nearest value, for any fraction below 2 ^ (emax + 1) whose root makes no tie

module _ (f : Format) (num den : ℕ) (den_pos : 0 < den) (small : num < 2 ^ suc (emax f) * den) where
  prec-pos : 0 < prec f
  prec-pos = two-le_pos (prec f) (two f)

  round_root-value : HasValue (round_root f num den) false (root_units f num den) (2 ^ low f)
  round_root-value =
      let n = num * 4 ^ low f in
      let below : n < 2 ^ suc (emax f) * 4 ^ low f * den =
      lt_of_lt_of_le (mul-lt-mul_of_pos_right small (four-pow-pos (low f)))
      (le_of_eq (mul_right_comm (2 ^ suc (emax f)) den (4 ^ low f))) in
      subst (λ (z : Float). HasValue z false (root_units f num den) (2 ^ low f)) (sym (round_root-is f num den))
      (units_val f false (rounded_root (prec f) n den) (dropped_digits (prec f) n den)
      (no_overflow (prec f) n den (low f) (suc (emax f)) prec-pos den_pos (le_trans (two f) (reach f)) below))

  round_root-units : in_units f (round_root f num den) ≡ root_units f num den
  round_root-units = in_units-of-value f (round_root f num den) false (root_units f num den) round_root-value

  round_root-nearest : (let n = num * 4 ^ low f in ¬ Tie n (scaled_divisor (prec f) n den) (truncated_root (prec f) n den))
      → NearestRoot f num den (round_root f num den)
  round_root-nearest not-tie =
      let p = prec f in
      let n = num * 4 ^ low f in
      let k = dropped_digits p n den in
      let q = truncated_root p n den in
      let full = truncated-full p n den den_pos prec-pos in
      let upper = truncated-upper p n den den_pos in
      let lower = truncated-lower p n den den_pos in
      let rounds = nearest-rounds n (scaled_divisor p n den) q not-tie in
      record {
        held = round_root-fits f num den den_pos;
        value = rw round_root-units round_root-value;
        above = λ w h l.
            rw round_root-units
            (farther-above p k q prec-pos full n den den_pos upper rounds (in_units f w) (in_units-digits f w h)
            (rw round_root-units at l));
        below = λ w h l.
            rw round_root-units
            (farther-below p k q prec-pos full n den den_pos lower rounds (in_units f w) (in_units-digits f w h)
            (rw round_root-units at l));
      }

-- ---- the theorems

-- The square root of a value above zero is the value of the format that is nearest to the root; every other is farther.
pub square_root-is : (f : Format) (m : ℕ) (e : ℤ)
    → T (fits f (fin false (suc m) e))
    → NearestRoot f (suc m * up e) (down e) (square_root f (fin false (suc m) e))
unfolding square_root
square_root-is f m e h =
    round_root-nearest f (suc m * up e) (down e) (down_pos e) (parts f false (suc m) e h).below (no_tie f m e h)

-- Only one value is nearest, so `NearestRoot` determines the result.
pub nearest-root-unique : (f : Format) (num den : ℕ) (y z : Float)
    → NearestRoot f num den y
    → NearestRoot f num den z
    → y ≡ z
nearest-root-unique f num den y z y-is z-is =
    let same : in_units f z ≡ in_units f y = le_antisymm (not-below y z y-is z-is) (not-below z y z-is y-is) in
    unique f y z false (in_units f y) (2 ^ low f) (pow_pos (low f)) y-is.held z-is.held y-is.value
    (subst (λ (a : ℕ). HasValue z false a (2 ^ low f)) same z-is.value)
  where
    -- were one below the other, the root would lie on both sides of their middle
    not-below : (y z : Float) → NearestRoot f num den y → NearestRoot f num den z → in_units f z ≤ in_units f y
    not-below y z y-is z-is =
        le_of_suc-le-suc (lt_of_not-le
        (λ (l : in_units f y < in_units f z).
        lt_irrefl (num * 4 ^ low f * 4)
        (lt_of_lt_of_le (y-is.above z z-is.held l)
        (le_trans (le_of_eq (ap (λ (a : ℕ). a * a * den) (add_comm (in_units f y) (in_units f z))))
        (le_of_lt (z-is.below y y-is.held l))))))

-- The square root of any value that fits, fits.
pub square_root-fits : (f : Format) (x : Float) → T (fits f x) → T (fits f (square_root f x))
unfolding square_root
square_root-fits f nan h = nan-fits f
square_root-fits f (inf true) h = nan-fits f
square_root-fits f (inf false) h = inf-fits f false
square_root-fits f (fin s zero e) h = h
square_root-fits f (fin true (suc m) e) h = nan-fits f
square_root-fits f (fin false (suc m) e) h = round_root-fits f (suc m * up e) (down e) (down_pos e)
