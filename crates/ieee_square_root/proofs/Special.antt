-- The square roots that no digits are worked out for, by bit patterns: of negative values, of zeros, of the infinity and of a NaN. Assumes nothing.
use mathlib.Core.Path.{◌≡◌, refl, sym, ap, ◌∙◌, subst}
use mathlib.Core.Bool.{Bool, true, false, cond}
use Prim.Native.Nat.{ℕ, zero, suc, ◌+◌, ◌-◌, ◌*◌, ◌/◌, ◌%◌, ◌^◌, ◌≤◌, ◌<◌}
use native.Mathlib.Nat.{le_of_eq, le_of_lt, le_antisymm, le_of_suc-le-suc, lt_of_lt_of_le, lt_irrefl, mul-pos, mul_comm, mod-eq_of_lt, mod-eq-sub-mod, mod-mod_of_dvd, dvd-mul_right, div-add-mod', div-lt_iff_lt-mul, le-div_iff_mul-le, zero-mul, zero-add}
use native.Mathlib.Omega.{arith}
use lib.Dec.{eqb}
use lib.Pow.{pow_pos}
use lib.Ieee.{Float, nan, inf, fin, Format, binary64, prec, emax, low, up, hid, ones, top, odd, of_bits, of_fields, is_nan, neg}
use lib.Ieee.Exact.{HasValue, odd_sign}
use lib.Ieee.Fits.{down_pos}
use borrow.Author.Tests.{le-leb, eq-eqb}
use Rattle.ieee_square_root.specs.SquareRoot.{square_root}
use Rattle.ieee_square_root.proofs.FromBits.{magnitude-positive, hid-pos, fields}

-- ---- a NaN

-- a NaN is its own root
pub nan-root : (f : Format) (x : Float) → is_nan x ≡ true → x ≡ square_root f x
unfolding is_nan square_root
nan-root f nan h = refl
nan-root f (inf s) h = absurd cc
nan-root f (fin s m e) h = absurd cc

-- ---- a negative value

negative-root : (f : Format) (x : Float) (n d : ℕ) → 0 < n → HasValue x true n d → square_root f x ≡ nan
unfolding square_root
negative-root f nan n d p v = absurd v
negative-root f (inf s) n d p v = absurd v
negative-root f (fin s zero e) n d p v = absurd (lt_irrefl 0 (lt_of_lt_of_le (mul-pos p (down_pos e)) (le_of_eq (sym v.1 ∙ zero-times (up e) d))))
  where
    zero-times : (a b : ℕ) → 0 * a * b ≡ 0
    zero-times a b = ap (λ (x : ℕ). x * b) (zero-mul a) ∙ zero-mul b
negative-root f (fin true (suc m) e) n d p v = refl
negative-root f (fin false (suc m) e) n d p v = absurd (subst (λ (b : Bool). cond b ⊥ Unit) v.0 tt)

negative-fields : (f : Format) (x t : ℕ) → (x ≡ 0 → 0 < t) → square_root f (of_fields f true x t) ≡ nan
unfolding of_fields square_root
negative-fields f zero t h = negative-root f (odd (prec f) true t 0 (low f)) (t * 1) (2 ^ low f) (mul-pos (h refl) (pow_pos 0)) (odd_sign (prec f) true t 0 (low f))
negative-fields f (suc x) t h = by (eqb (suc x) (ones f)) (eqb t 0)
  where
    by : (a b : Bool) → square_root f (cond a (cond b (inf true) nan) (odd (prec f) true (hid f + t) x (low f))) ≡ nan
    by true true = refl
    by true false = refl
    by false b = negative-root f (odd (prec f) true (hid f + t) x (low f)) ((hid f + t) * 2 ^ x) (2 ^ low f) (magnitude-positive f (suc x) t h) (odd_sign (prec f) true (hid f + t) x (low f))

-- a pattern above -0's, with the sign set
pub negative-bits : (f : Format) (b : ℕ) → top f < b → b < 2 * top f → square_root f (of_bits f b) ≡ nan
unfolding of_bits
negative-bits f b above below =
    ap (λ (s : Bool). square_root f (of_fields f s (b % top f / hid f) (b % hid f))) (le-leb (top f) b (le_of_lt above))
    ∙ negative-fields f (b % top f / hid f) (b % hid f) digits
  where
    left : b % top f ≡ b - top f
    left = mod-eq-sub-mod (le_of_lt above) ∙ mod-eq_of_lt (rest b (top f) above below)
      where
        rest : (b t : ℕ) → t < b → b < 2 * t → b - t < t
        rest b t h l = omega arith

    digits : b % top f / hid f ≡ 0 → 0 < b % hid f
    digits z = lt_of_lt_of_le (more b (top f) above) (le_of_eq (sym left ∙ sym (div-add-mod' (b % top f) (hid f)) ∙ ap (λ (x : ℕ). x * hid f + b % top f % hid f) z ∙ ap (λ (x : ℕ). x + b % top f % hid f) (zero-mul (hid f)) ∙ zero-add (b % top f % hid f) ∙ mod-mod_of_dvd (hid f) b (dvd-mul_right (hid f) (suc (ones f)))))
      where
        more : (b t : ℕ) → t < b → 0 < b - t
        more b t h = omega arith

-- ---- the infinity

-- with a field of all ones, an infinity or a NaN
infinite-fields : (f : Format) (x t : ℕ) → x ≡ ones f → of_fields f false x t ≡ square_root f (of_fields f false x t)
unfolding of_fields square_root
infinite-fields f zero t h = absurd (none (emax f) h)
  where
    none : (e : ℕ) → 0 ≡ 2 * e + 1 → ⊥
    none e h = omega arith
infinite-fields f (suc x) t h = by (eqb (suc x) (ones f)) (eq-eqb (suc x) (ones f) h) (eqb t 0)
  where
    by : (a : Bool) → a ≡ true → (b : Bool)
        → cond a (cond b (inf false) nan) (odd (prec f) false (hid f + t) x (low f))
        ≡ square_root f (cond a (cond b (inf false) nan) (odd (prec f) false (hid f + t) x (low f)))
    by true h true = refl
    by true h false = refl
    by false h b = absurd (subst (λ (a : Bool). cond a ⊥ Unit) h tt)

-- a pattern from the infinity's on, with the sign clear
pub infinite-bits : (f : Format) (b : ℕ) → ones f * hid f ≤ b → b < top f → of_bits f b ≡ square_root f (of_bits f b)
infinite-bits f b above below =
    subst (λ (x : Float). x ≡ square_root f x) (sym (fields f b below)) (infinite-fields f (b / hid f) (b % hid f) field)
  where
    field : b / hid f ≡ ones f
    field =
        le_antisymm
        (le_of_suc-le-suc ((div-lt_iff_lt-mul (hid-pos f)).1 (lt_of_lt_of_le below (le_of_eq (mul_comm (hid f) (suc (ones f)))))))
        ((le-div_iff_mul-le (hid-pos f)).1 above)

-- ---- the zeros

pub zero-root : of_bits binary64 0 ≡ square_root binary64 (of_bits binary64 0)
unfolding of_bits square_root
zero-root = refl

pub minus-zero-root : neg (of_bits binary64 0) ≡ square_root binary64 (of_bits binary64 9223372036854775808)
unfolding of_bits square_root neg
minus-zero-root = refl
