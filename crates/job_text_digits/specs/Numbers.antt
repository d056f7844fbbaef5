-- Numbers as the job program prints them (01, "The job program"). A text is the list of its bytes, in ASCII. Assumes nothing.
use Rattle.std.specs.Prelude.{◌≡◌, cond, List, [], ◌∷◌, ◌++◌, ℕ, zero, suc, ◌+◌, ◌/◌, ◌%◌, ◌^◌, ◌<◌, ltb, Float}
use Rattle.std.specs.Float.{binary64}
use Rattle.std.specs.Float.Ieee.{of_bits}

-- the digit of a number below 16: `0` to `9`, then `a` to `f`
unfoldable pub digit : ℕ → ℕ
digit d = cond (ltb d 10) (48 + d) (87 + d)

-- the last k digits of n in a base, the most significant first
unfoldable pub digits : ℕ → ℕ → ℕ → List ℕ
digits base zero n = []
digits base (suc k) n = digits base k (n / base) ++ (digit (n % base) ∷ [])

-- how many decimal digits n has: one below 10, else one more than n / 10 has. The first number only bounds the recursion.
unfoldable pub places_within : ℕ → ℕ → ℕ
places_within zero n = 1
places_within (suc bound) n = cond (ltb n 10) 1 (suc (places_within bound (n / 10)))

-- n itself is bound enough
unfoldable pub places : ℕ → ℕ
places n = places_within n n

-- a count: in decimal, with no leading zero (`no-leading-zero` of proofs/Digits.antt)
unfoldable pub decimal : ℕ → List ℕ
decimal n = digits 10 (places n) n

-- a 64-bit pattern: 16 hexadecimal digits
unfoldable pub hexadecimal16 : ℕ → List ℕ
hexadecimal16 bits = digits 16 16 bits

-- A real: a 64-bit pattern of it. One that is no NaN has one pattern (`real-only` of job_text/proofs/Only.antt); which NaN's pattern
-- stands for a NaN is the program's choice.
pub record RealText (x : Float) (text : List ℕ) : Type 0 where
  pub bits : ℕ
  pub fits : bits < 2 ^ 64
  pub value : of_bits binary64 bits ≡ x
  pub is : text ≡ hexadecimal16 bits
