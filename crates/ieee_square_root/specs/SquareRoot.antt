-- IEEE 754's squareRoot, to nearest, ties to even, for any format (01, part 4). Definitions only.
use Rattle.std.specs.Prelude.{true, false, T, Float}
use Prim.Native.Nat.{ℕ, zero, suc, ◌+◌, ◌-◌, ◌*◌, ◌/◌, ◌^◌, ◌<◌, compare}
use Rattle.std.specs.Float.{nan, inf, fin, Format}
use Rattle.std.specs.Float.Ieee.{prec, low, up, down, size, nearest, units, fits}
use Rattle.std.specs.Float.Ieee.Exact.{HasValue}
use Rattle.ieee_square_root.specs.IntegerRoot.{isqrt}

-- The value of the format f that is nearest to the square root of num / den, for a den above 0.
-- In units of the format's smallest value, 2 ^ -low, that root is the root of n / den. The format keeps the `prec` leading digits of
-- the root's whole part and drops k. So the result is a multiple of 2 ^ k units: q of them, the integer root of what is left of n
-- after scaling, or q + 1 where the root lies above q + 1 / 2 of them. That is where 4 * n is above (2 * q + 1) ^ 2 * u.
unfoldable pub round_root : Format → ℕ → ℕ → Float
unfolding isqrt size units
round_root f num den =
    let n = num * 4 ^ low f in
    let k = size (isqrt (n / den)) - prec f in
    let u = den * 4 ^ k in
    let q = isqrt (n / u) in
    units f false (nearest q (compare (n * 4) ((2 * q + 1) * (2 * q + 1) * u))) k

-- The square root of a value. A zero is its own root, with its sign; no other negative value has one.
unfoldable pub square_root : Format → Float → Float
unfolding round_root
square_root f nan = nan
square_root f (inf true) = nan
square_root f (inf false) = inf false
square_root f (fin s zero e) = fin s zero e
square_root f (fin true (suc m) e) = nan
square_root f (fin false (suc m) e) = round_root f (suc m * up e) (down e)

-- The magnitude of a finite value, in units of the format's smallest value. A NaN and an infinity have none, and count as 0.
abbrev pub in_units : Format → Float → ℕ
in_units f nan = 0
in_units f (inf s) = 0
in_units f (fin s m e) = m * up e * 2 ^ low f / down e

-- What makes `round_root` believable: z is a finite value of the format, not negative, and every other value w of the format lies
-- farther from the root of num / den. A w is farther where the root lies on z's side of the middle between the two, (z + w) / 2.
-- With all in units of the smallest value this is said by squares: four times the root's square against (z + w) ^ 2.
-- Both are strict, so no two values are equally near: a tie can't occur. A negative w is farther than its magnitude.
-- That the result of `round_root` is such a z is the theorem `square_root-is`, in proofs/NearestRoot.antt.
pub record NearestRoot (f : Format) (num den : ℕ) (z : Float) : Type 0 where
  pub held : T (fits f z)
  pub value : HasValue z false (in_units f z) (2 ^ low f)
  pub above : (w : Float)
      → T (fits f w)
      → in_units f z < in_units f w
      → num * 4 ^ low f * 4 < (in_units f z + in_units f w) * (in_units f z + in_units f w) * den
  pub below : (w : Float)
      → T (fits f w)
      → in_units f w < in_units f z
      → (in_units f z + in_units f w) * (in_units f z + in_units f w) * den < num * 4 ^ low f * 4
