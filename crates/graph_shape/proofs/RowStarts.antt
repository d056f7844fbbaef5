-- The walk over the row starts that joins each start and its distance from the next, modulo 2^64, in one word: where this is below 2^63, so
-- are they all, and no start exceeds the next. Assumes nothing.
use Rattle.std.proofs.Common.{◌≡◌, ℕ, ◌+◌, ◌%◌, ◌^◌, ◌<◌, ◌≤◌, false, sym, ltb, List, get_or, mod-eq_of_lt, arith, le-ltb, add-one, ⊎_elim, eq-or-lt_of_le, not-suc-le-zero, le_of_suc-le-suc}
use Rattle.graph_shape.specs.ShapeChecks.{Rise}
use lib.Bits.{bit_or, or_add_and, and_le_l, and_le_r}

-- a word is no less than those that are joined in it
pub or_left : (a b : ℕ) → a ≤ bit_or a b
or_left a b = omega (arith, or_add_and a b, and_le_r a b)

pub or_right : (a b : ℕ) → b ≤ bit_or a b
or_right a b = omega (arith, or_add_and a b, and_le_l a b)

-- the words joined before are below 2^63, if all are
pub joined-before : (joined start distance : ℕ) → bit_or (bit_or joined start) distance < 2 ^ 63 → joined < 2 ^ 63
joined-before joined start distance h = omega (arith, or_left joined start, or_left (bit_or joined start) distance)

-- and this start does not exceed the next
pub joined-rises : (joined start distance end : ℕ)
    → (distance + start) % 2 ^ 64 ≡ end
    → bit_or (bit_or joined start) distance < 2 ^ 63
    → ltb end start ≡ false
joined-rises joined start distance end e h =
    let s : start < 2 ^ 63 = omega (arith, or_right joined start, or_left (bit_or joined start) distance) in
    let d : distance < 2 ^ 63 = omega (arith, or_right (bit_or joined start) distance) in
    let whole : (distance + start) % 2 ^ 64 ≡ distance + start = mod-eq_of_lt (omega arith) in
    le-ltb end start (omega (arith, e, whole))

-- ---- the walk goes over the starts but for the last

-- if the word joined is below 2^63, none of the first i starts exceeds the next
abbrev pub Joined : List ℕ → ℕ → ℕ → Type 0
Joined starts i joined = joined < 2 ^ 63 → Rise i starts

pub joined_none : (starts : List ℕ) → Joined starts 0 0
joined_none starts h j l = absurd (not-suc-le-zero l)

pub joined-more : (starts : List ℕ) (i joined start distance : ℕ)
    → start ≡ get_or starts i 0
    → (distance + start) % 2 ^ 64 ≡ get_or starts (i + 1) 0
    → Joined starts i joined
    → Joined starts (i + 1) (bit_or (bit_or joined start) distance)
joined-more starts i joined start distance this next before h j l =
    ⊎_elim (λ (e : j ≡ i). rw (e, sym this) (joined-rises joined start distance _ next h))
    (λ m. before (joined-before joined start distance h) j m)
    (eq-or-lt_of_le (le_of_suc-le-suc (rw add-one at l)))
