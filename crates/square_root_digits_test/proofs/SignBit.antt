-- Answers that stand in the sign bit of a word, 2 ^ 63. Assumes nothing.
use mathlib.Core.Path.{◌≡◌, ◌∙◌}
use Prim.Native.Nat.{ℕ, ◌+◌, ◌-◌, ◌*◌, ◌^◌, ◌≤◌, ◌<◌}
use native.Mathlib.Nat.{le_trans, mod-eq_of_lt}
use native.Mathlib.Omega.{arith}
use lib.Bits.{bit_and, bit_xor, and_le_l, and_le_r, and_comm, and_mask, and_shifted, xor_add_and}

-- of two words joined by `&` it is set only where it is set in both
pub both-set : (a b : ℕ) → 2 ^ 63 ≤ bit_and a b → (2 ^ 63 ≤ a) × (2 ^ 63 ≤ b)
both-set a b h = (le_trans h (and_le_l a b), le_trans h (and_le_r a b))

-- less the digits in which two numbers differ, it is set only where they don't
pub same_set : (a b : ℕ) → 2 ^ 63 ≤ 2 ^ 63 - bit_xor a b → a ≡ b
same_set a b h = equal (bit_xor a b) (bit_and a b) h (xor_add_and a b) (and_le_l a b) (and_le_r a b)
  where
    equal : (x m : ℕ) → 2 ^ 63 ≤ 2 ^ 63 - x → x + m * 2 ≡ a + b → m ≤ a → m ≤ b → a ≡ b
    equal x m h e l r = omega arith

-- the word less 1 has every digit of a number below it, and the word itself none
pub all_digits : (s : ℕ) → s < 2 ^ 63 → bit_and s (2 ^ 63 - 1) ≡ s
all_digits s h = and_mask s 63 ∙ mod-eq_of_lt h

pub no-digits : (s : ℕ) → s < 2 ^ 63 → bit_and s (2 ^ 63 - 0) ≡ 0
no-digits s h = and_comm s (2 ^ 63) ∙ and_shifted 1 63 s h
