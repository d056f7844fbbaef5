-- Bit patterns of values above zero, for any format: what a pattern's fields say, and the pattern of digits and an exponent. Assumes nothing.
use mathlib.Core.Path.{◌≡◌, refl, sym, ap, ◌∙◌, subst}
use mathlib.Core.Bool.{Bool, false, not, cond}
use Prim.Native.Nat.{ℕ, zero, suc, ◌+◌, ◌-◌, ◌*◌, ◌/◌, ◌%◌, ◌^◌, ◌≤◌, ◌<◌}
use native.Mathlib.Nat.{le_trans, le_of_eq, le_of_lt, lt_of_lt_of_le, mul_comm, mul-one, mul-pos, le-add_right, mul-le-mul_right, mod-eq_of_lt, mod-le, div-lt_iff_lt-mul, le-suc, suc-mul}
use native.Mathlib.Omega.{arith}
use lib.Dec.{T, ltb, eqb}
use lib.Pow.{pow-add, pow_pos, pow_mono, shl_lt, high, low as remainder}
use lib.Ieee.{Float, nan, inf, Format, binary32, binary64, prec, emax, low, hid, ones, top, odd, units, of_bits, of_fields, nan_bits, fits}
use lib.Ieee.Bits.{of_bits-fits, nan_bits_above}
use lib.Ieee.Exact.{HasValue, odd_sign, units_val}
use lib.Ieee.Fits.{two, two-le_pos, cond-fits, odd-fits, inf-fits}
use lib.Ieee.Scale.{overflow}
use borrow.Author.Tests.{lt-leb, le-ltb, ne_eqb}
use Rattle.rounding.proofs.Value.{unique}
use Rattle.ieee_square_root.specs.Steps.{magnitude}

-- ---- the fields of a pattern with a clear sign

below_top : (f : Format) {b : ℕ} → b < ones f * hid f → b < top f
below_top f {b} h = lt_of_lt_of_le h (le_trans (mul-le-mul_right (hid f) (le-suc (ones f))) (le_of_eq (mul_comm (suc (ones f)) (hid f))))

pub fields : (f : Format) (b : ℕ) → b < top f → of_bits f b ≡ of_fields f false (b / hid f) (b % hid f)
unfolding of_bits
fields f b h =
    ap (λ (s : Bool). of_fields f s (b % top f / hid f) (b % hid f)) (lt-leb (top f) b h)
    ∙ ap (λ (x : ℕ). of_fields f false (x / hid f) (b % hid f)) (mod-eq_of_lt h)

fields_value : (f : Format) (x t : ℕ) → x < ones f → HasValue (of_fields f false x t) false (magnitude f x t) (2 ^ low f)
unfolding of_fields
fields_value f zero t h = subst (λ (n : ℕ). HasValue (odd (prec f) false t 0 (low f)) false n (2 ^ low f)) (mul-one t) (odd_sign (prec f) false t 0 (low f))
fields_value f (suc x) t h =
    subst (λ (v : Float). HasValue v false ((hid f + t) * 2 ^ x) (2 ^ low f))
    (sym (ap (λ (b : Bool). cond b (cond (eqb t 0) (inf false) nan) (odd (prec f) false (hid f + t) x (low f))) (ne_eqb (suc x) (ones f) (differ h))))
    (odd_sign (prec f) false (hid f + t) x (low f))
  where
    differ : {a b : ℕ} → a < b → a ≡ b → ⊥
    differ h e = omega arith

pub hid-pos : (f : Format) → 0 < hid f
hid-pos f = pow_pos (prec f - 1)

pub magnitude-positive : (f : Format) (x t : ℕ) → (x ≡ 0 → 0 < t) → 0 < magnitude f x t
magnitude-positive f zero t h = h refl
magnitude-positive f (suc x) t h = mul-pos (lt_of_lt_of_le (hid-pos f) (le-add_right (hid f) t)) (pow_pos x)

-- a pattern below the infinity's is a value of the magnitude that its fields say
pub bits-value : (f : Format) (b : ℕ) → b < ones f * hid f → HasValue (of_bits f b) false (magnitude f (b / hid f) (b % hid f)) (2 ^ low f)
bits-value f b h =
    subst (λ (v : Float). HasValue v false (magnitude f (b / hid f) (b % hid f)) (2 ^ low f)) (sym (fields f b (below_top f h)))
    (fields_value f (b / hid f) (b % hid f) ((div-lt_iff_lt-mul (hid-pos f)).1 h))

-- ---- the pattern of r units of 2 ^ k, for an r that has all of the format's digits

module _ (f : Format) (k r : ℕ) (full : hid f ≤ r) (kept : r < 2 ^ prec f) (small : suc k < ones f) where
  hid-twice : 2 ^ prec f ≡ hid f + hid f
  hid-twice = ap (λ (x : ℕ). 2 ^ x) (next (prec f) (two-le_pos (prec f) (two f))) ∙ pow-add 2 (prec f - 1) 1 ∙ twice (hid f)
    where
      next : (p : ℕ) → 0 < p → p ≡ p - 1 + 1
      next p h = omega arith

      twice : (x : ℕ) → x * 2 ≡ x + x
      twice x = omega arith

  -- the hidden digit counts one in the exponent's field
  split : k * hid f + r ≡ suc k * hid f + (r - hid f)
  split = moved (k * hid f) (hid f) r (suc k * hid f) (suc-mul k (hid f)) full
    where
      moved : (a h r b : ℕ) → b ≡ a + h → h ≤ r → a + r ≡ b + (r - h)
      moved a h r b e l = omega arith

  digits-below : r - hid f < hid f
  digits-below = rest r (hid f) (2 ^ prec f) hid-twice kept
    where
      rest : (r h p : ℕ) → p ≡ h + h → r < p → r - h < h
      rest r h p e l = omega arith

  pub pattern-below : k * hid f + r < ones f * hid f
  pattern-below = lt_of_lt_of_le (more (k * hid f) (hid f) r (suc (suc k) * hid f) rows hid-twice kept) (mul-le-mul_right (hid f) small)
    where
      rows : suc (suc k) * hid f ≡ k * hid f + hid f + hid f
      rows = suc-mul (suc k) (hid f) ∙ ap (λ (x : ℕ). x + hid f) (suc-mul k (hid f))

      more : (a h r b : ℕ) → b ≡ a + h + h → {p : ℕ} → p ≡ h + h → r < p → a + r < b
      more a h r b e q l = omega arith

  pattern-value : HasValue (of_bits f (k * hid f + r)) false (r * 2 ^ k) (2 ^ low f)
  pattern-value =
      subst (λ (n : ℕ). HasValue (of_bits f (k * hid f + r)) false n (2 ^ low f))
      ((λ i. magnitude f (field i) (digits i)) ∙ ap (λ (x : ℕ). x * 2 ^ k) (whole (hid f) r full))
      (bits-value f (k * hid f + r) pattern-below)
    where
      field : (k * hid f + r) / hid f ≡ suc k
      field = ap (λ (x : ℕ). x / hid f) split ∙ high (suc k) (prec f - 1) digits-below

      digits : (k * hid f + r) % hid f ≡ r - hid f
      digits = ap (λ (x : ℕ). x % hid f) split ∙ remainder (suc k) (prec f - 1) digits-below

      whole : (h r : ℕ) → h ≤ r → h + (r - h) ≡ r
      whole h r l = omega arith

  in-range : r * 2 ^ k < overflow f
  in-range = lt_of_lt_of_le (shl_lt (prec f) k kept) (pow_mono (room f k small))
    where
      room : (f : Format) (k : ℕ) → suc k < ones f → prec f + k ≤ low f + suc (emax f)
      room binary32 k h = omega arith
      room binary64 k h = omega arith

  units-fit : T (fits f (units f false r k))
  unfolding units
  units-fit =
      cond-fits f (ltb (r * 2 ^ k) (overflow f)) (odd (suc (prec f)) false r k (low f)) (inf false)
      (odd-fits f (suc (prec f)) false r k (lt_of_lt_of_le kept (pow_mono (le-suc (prec f)))) (le_of_lt kept) in-range)
      (inf-fits f false)

  -- the value that the pattern stands for
  pub pattern-is : of_bits f (k * hid f + r) ≡ units f false r k
  pattern-is =
      unique f (of_bits f (k * hid f + r)) (units f false r k) false (r * 2 ^ k) (2 ^ low f) (pow_pos (low f))
      (of_bits-fits f (k * hid f + r)) units-fit pattern-value (units_val f false r k in-range)

-- a pattern up to the infinity's is no NaN's
pub no_nan : (f : Format) (b : ℕ) → b ≤ ones f * hid f → T (not (nan_bits f b))
no_nan f b h =
    subst (λ (t : Bool). T (not t)) (sym (nan_bits_above f b ∙ le-ltb (ones f * hid f) (b % top f) (le_trans (mod-le b (top f)) h))) tt
