-- Half of a value's exponent: that it fits its type, its place, and what is left for the digits. Assumes nothing.
use mathlib.Core.Path.{◌≡◌, sym, ap, ◌∙◌, subst}
use mathlib.Core.Bool.{Bool, true, false, not}
use Prim.Native.Nat.{ℕ, zero, suc, ◌+◌, ◌-◌, ◌*◌, ◌/◌, ◌%◌, ◌^◌, ◌≤◌, ◌<◌}
use native.Mathlib.Nat.{lt_of_lt_of_le, mul_assoc, mul_comm, mul_left_comm}
use native.Mathlib.Omega.{arith}
use lib.Dec.{T, leb, leb→le, nleb→lt, lit≤}
use lib.Ieee.{binary64}
use lib.IntN.{ℤ, pos, negsuc, nat_abs, pos-ne-negsuc, sub_ℕ, ◌+ℤ◌, ◌-ℤ◌}
use lib.Pow.{pow-add}
use mir.Syntax.{w64}
use mir.Val.{SFits, of_z, to_z}
use Rattle.ieee_square_root.specs.IntegerRoot.{four-pow}
use Rattle.ieee_square_root.specs.Steps.{half_down, magnitude, Normalized, Scaled}
use Rattle.ieee_square_root.proofs.Exponent.{small, difference, difference_below, read_back}

-- e is p - 1074, by its sign
pub data Placed : ℤ → ℕ → Type 0 where
  above : {a p : ℕ} → p ≡ a + 1074 → Placed (pos a) p
  below : {a p : ℕ} → p + suc a ≡ 1074 → Placed (negsuc a) p

pub placed : (e : ℤ) {p : ℕ} → e +ℤ pos 1074 ≡ pos p → Placed e p
placed (pos a) h = above (sym (ap nat_abs h))
placed (negsuc a) {p} h = by (leb (suc a) 1074) (leb→le (suc a) 1074) (nleb→lt (suc a) 1074)
  where
    by : (b : Bool) → (T b → suc a ≤ 1074) → (T (not b) → 1074 < suc a) → Placed (negsuc a) p
    by true y n = below (left (ap nat_abs (sym (difference 1074 (suc a) (y tt)) ∙ h)) (y tt))
      where
        left : 1074 - suc a ≡ p → suc a ≤ 1074 → p + suc a ≡ 1074
        left e h = omega arith
    by false y n = absurd (pos-ne-negsuc p (suc a - suc 1074) (sym h ∙ difference_below 1074 (suc a) (n tt)))

pub exponent-fits : {e : ℤ} {p : ℕ} → p ≤ 2097 → Placed e p → SFits w64 e
exponent-fits m (above h) = record { sfits = small (omega arith) }
exponent-fits m (below h) = record { sfits = small (omega arith) }

pub half-fits : {e : ℤ} {p : ℕ} → p ≤ 2097 → Placed e p → SFits w64 (half_down e)
half-fits m (above h) = record { sfits = small (omega arith) }
half-fits m (below h) = record { sfits = small (omega arith) }

-- the place of the half, counted from -1022
pub half-placed : {e : ℤ} {p : ℕ} → Placed e p → half_down e +ℤ pos 1022 ≡ pos (p / 2 + 485)
half-placed (above {a} {p} h) = ap pos (sum a p h)
  where
    sum : (a p : ℕ) → p ≡ a + 1074 → a / 2 + 1022 ≡ p / 2 + 485
    sum a p h = omega arith
half-placed (below {a} {p} h) = difference 1022 (suc (a / 2)) (within a p h) ∙ ap pos (left a p h)
  where
    within : (a p : ℕ) → p + suc a ≡ 1074 → suc (a / 2) ≤ 1022
    within a p h = omega arith

    left : (a p : ℕ) → p + suc a ≡ 1074 → 1022 - suc (a / 2) ≡ p / 2 + 485
    left a p h = omega arith

-- ---- what is left of the exponent when half of it is taken away

minus-count : (a b : ℕ) → b ≤ a → pos a -ℤ pos b ≡ pos (a - b)
minus-count a zero h = ap pos (none a)
  where
    none : (a : ℕ) → a + 0 ≡ a - 0
    none a = omega arith
minus-count a (suc b) h = difference a (suc b) h

half_le : (a : ℕ) → a / 2 ≤ a
half_le a = omega arith

pub rest-fits : {e : ℤ} {p : ℕ} → p ≤ 2097 → Placed e p → SFits w64 (e -ℤ half_down e)
rest-fits m (above {a} {p} h) = subst (λ (z : ℤ). SFits w64 z) (sym (minus-count a (a / 2) (half_le a))) record { sfits = small (bound a p h m) }
  where
    bound : (a p : ℕ) → p ≡ a + 1074 → p ≤ 2097 → a - a / 2 ≤ 4096
    bound a p h m = omega arith
rest-fits m (below {a} {p} h) = by (leb (suc a) (suc (a / 2))) (leb→le (suc a) (suc (a / 2))) (nleb→lt (suc a) (suc (a / 2)))
  where
    by : (b : Bool) → (T b → suc a ≤ suc (a / 2)) → (T (not b) → suc (a / 2) < suc a) → SFits w64 (sub_ℕ (suc (a / 2)) (suc a))
    by true y n = subst (λ (z : ℤ). SFits w64 z) (sym (difference (suc (a / 2)) (suc a) (y tt))) record { sfits = small (omega arith) }
    by false y n = subst (λ (z : ℤ). SFits w64 z) (sym (difference_below (suc (a / 2)) (suc a) (n tt))) record { sfits = small (omega arith) }

-- where the exponent is even, that is the half again
pub even-rest : {e : ℤ} {p : ℕ} → Placed e p → p % 2 ≡ 0 → e -ℤ half_down e ≡ half_down e
even-rest (above {a} {p} h) z = minus-count a (a / 2) (half_le a) ∙ ap pos (twice a p h z)
  where
    twice : (a p : ℕ) → p ≡ a + 1074 → p % 2 ≡ 0 → a - a / 2 ≡ a / 2
    twice a p h z = omega arith
even-rest (below {a} {p} h) z = difference_below (suc (a / 2)) (suc a) (more a p h z) ∙ ap negsuc (twice a p h z)
  where
    more : (a p : ℕ) → p + suc a ≡ 1074 → p % 2 ≡ 0 → suc (a / 2) < suc a
    more a p h z = omega arith

    twice : (a p : ℕ) → p + suc a ≡ 1074 → p % 2 ≡ 0 → suc a - suc (suc (a / 2)) ≡ a / 2
    twice a p h z = omega arith

-- and nowhere else
pub rest-even : {e : ℤ} {p : ℕ} → Placed e p → e -ℤ half_down e ≡ half_down e → p % 2 ≡ 0
rest-even (above {a} {p} h) e = twice a p h (ap nat_abs (sym (minus-count a (a / 2) (half_le a)) ∙ e))
  where
    twice : (a p : ℕ) → p ≡ a + 1074 → a - a / 2 ≡ a / 2 → p % 2 ≡ 0
    twice a p h e = omega arith
rest-even (below {a} {p} h) e = by (leb (suc a) (suc (a / 2))) (leb→le (suc a) (suc (a / 2))) (nleb→lt (suc a) (suc (a / 2)))
  where
    by : (b : Bool) → (T b → suc a ≤ suc (a / 2)) → (T (not b) → suc (a / 2) < suc a) → p % 2 ≡ 0
    by true y n = absurd (pos-ne-negsuc (suc (a / 2) - suc a) (a / 2) (sym (difference (suc (a / 2)) (suc a) (y tt)) ∙ e))
    by false y n = twice a p h (n tt) (ap nat_abs (sym (difference_below (suc (a / 2)) (suc a) (n tt)) ∙ e))
      where
        twice : (a p : ℕ) → p + suc a ≡ 1074 → suc (a / 2) < suc a → suc (suc a - suc (suc (a / 2))) ≡ suc (a / 2) → p % 2 ≡ 0
        twice a p h l e = omega arith

-- ---- the value with its exponent halved

square-pow : (k : ℕ) → 4 ^ k ≡ 2 ^ (k + k)
square-pow k = four-pow k ∙ sym (pow-add 2 k k)

pub even-value : (n s p c d : ℕ) → p % 2 ≡ 0 → n * 2 ^ d ≡ s * 2 ^ p → n * 2 ^ (d + (c + c) + d) ≡ s * 2 ^ d * 4 ^ (p / 2 + c)
even-value n s p c d z h =
    ap (λ (x : ℕ). n * x) (ap (λ (x : ℕ). 2 ^ x) (front c d) ∙ pow-add 2 d (c + c + d))
    ∙ sym (mul_assoc n (2 ^ d) (2 ^ (c + c + d)))
    ∙ ap (λ (x : ℕ). x * 2 ^ (c + c + d)) h
    ∙ mul_assoc s (2 ^ p) (2 ^ (c + c + d))
    ∙ ap (λ (x : ℕ). s * x) (sym (pow-add 2 p (c + c + d)) ∙ ap (λ (x : ℕ). 2 ^ x) (exponents p c d z) ∙ pow-add 2 d (p / 2 + c + (p / 2 + c)))
    ∙ sym (mul_assoc s (2 ^ d) (2 ^ (p / 2 + c + (p / 2 + c))))
    ∙ ap (λ (x : ℕ). s * 2 ^ d * x) (sym (square-pow (p / 2 + c)))
  where
    front : (c d : ℕ) → d + (c + c) + d ≡ d + (c + c + d)
    front c d = omega arith

    exponents : (p c d : ℕ) → p % 2 ≡ 0 → p + (c + c + d) ≡ d + (p / 2 + c + (p / 2 + c))
    exponents p c d z = omega arith

-- an odd exponent is one more than an even one
pub odd-value : (n s p c d : ℕ) → (p % 2 ≡ 0 → ⊥) → n * 2 ^ d ≡ s * 2 ^ p → n * 2 ^ (d + (c + c) + d) ≡ 2 * s * 2 ^ d * 4 ^ (p / 2 + c)
odd-value n s p c d z h = subst (λ (x : ℕ). n * 2 ^ (d + (c + c) + d) ≡ 2 * s * 2 ^ d * 4 ^ (x + c)) (same p z)
    (even-value n (2 * s) (p - 1) c d (before p z) (h ∙ ap (λ (x : ℕ). s * 2 ^ x) (sym (next p z)) ∙ ap (λ (x : ℕ). s * x) (pow-add 2 (p - 1) 1) ∙ moved s (2 ^ (p - 1))))
  where
    same : (p : ℕ) → (p % 2 ≡ 0 → ⊥) → (p - 1) / 2 ≡ p / 2
    same p z = omega (arith, odd-one p z)
      where
        odd-one : (p : ℕ) → (p % 2 ≡ 0 → ⊥) → p % 2 ≡ 1
        odd-one p z = omega arith

    before : (p : ℕ) → (p % 2 ≡ 0 → ⊥) → (p - 1) % 2 ≡ 0
    before p z = omega arith

    next : (p : ℕ) → (p % 2 ≡ 0 → ⊥) → p - 1 + 1 ≡ p
    next p z = omega arith

    moved : (s x : ℕ) → s * (x * 2) ≡ 2 * s * x
    moved s x = simp (mul_assoc, mul_comm, mul_left_comm)

-- the machine compares bits, and those of two numbers that fit are equal only where the numbers are
bits-equal : (a b : ℤ) → SFits w64 a → SFits w64 b → of_z w64 a ≡ of_z w64 b → a ≡ b
bits-equal a b f g h = sym (read_back f) ∙ ap (to_z w64) h ∙ read_back g

-- `Scaled`, from what was read back: e the exponent, h its half, r what is left of it
pub even_is : (bits s : ℕ) (e : ℤ)
    → (v : Normalized bits s e)
    → e -ℤ half_down e ≡ half_down e
    → Scaled bits s (half_down e)
even_is bits s e v same =
    let q = placed e v.at in
    let even = rest-even q same in
    record {
      lower = v.lower;
      upper = lt_of_lt_of_le v.upper (lit≤ tt);
      place = v.place / 2 + 485;
      at = half-placed q;
      most = omega (arith, v.most);
      value = even-value (magnitude binary64 (bits / 2 ^ 52) (bits % 2 ^ 52)) s v.place 485 52 even v.value;
    }

pub odd_is : (bits s : ℕ) (e : ℤ)
    → (v : Normalized bits s e)
    → (e -ℤ half_down e ≡ half_down e → ⊥)
    → Scaled bits (2 * s) (half_down e)
odd_is bits s e v differ =
    let q = placed e v.at in
    let odd : v.place % 2 ≡ 0 → ⊥ = λ z. differ (even-rest q z) in
    record {
      lower = omega (arith, v.lower);
      upper = omega (arith, v.upper);
      place = v.place / 2 + 485;
      at = half-placed q;
      most = omega (arith, v.most);
      value = odd-value (magnitude binary64 (bits / 2 ^ 52) (bits % 2 ^ 52)) s v.place 485 52 odd v.value;
    }

-- the test on bits, either way
pub equal-bits-rest : (e h r : ℤ) {p : ℕ}
    → p ≤ 2097 → Placed e p → h ≡ half_down e → r ≡ e -ℤ h → of_z w64 r ≡ of_z w64 h → e -ℤ half_down e ≡ half_down e
equal-bits-rest e h r m q eh er bits =
    bits-equal (e -ℤ half_down e) (half_down e) (rest-fits m q) (half-fits m q)
    (ap (of_z w64) (ap (λ (z : ℤ). e -ℤ z) (sym eh) ∙ sym er) ∙ bits ∙ ap (of_z w64) eh)

pub rest-bits-equal : (e h r : ℤ) → h ≡ half_down e → r ≡ e -ℤ h → e -ℤ half_down e ≡ half_down e → of_z w64 r ≡ of_z w64 h
rest-bits-equal e h r eh er same = ap (of_z w64) (er ∙ ap (λ (z : ℤ). e -ℤ z) eh ∙ same ∙ sym eh)
