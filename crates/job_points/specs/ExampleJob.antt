-- Document 01's job ("The job program"), written out. Assumes nothing.
use Rattle.std.specs.Prelude.{List, [], ◌∷◌, ◌++◌, ℕ, zero, suc, ◌/◌, ◌%◌}

-- a number as k bytes, the lowest first; and numbers one after the other
unfoldable pub bytes : ℕ → ℕ → List ℕ
bytes zero x = []
bytes (suc k) x = x % 256 ∷ bytes k (x / 256)

unfoldable pub numbers : ℕ → List ℕ → List ℕ
numbers k [] = []
numbers k (x ∷ xs) = bytes k x ++ numbers k xs

-- the bits of 1 and of -1
abbrev pub one : ℕ
one = 0x3FF0_0000_0000_0000

abbrev pub minus_one : ℕ
minus_one = 0xBFF0_0000_0000_0000

-- the job with a map: n 2, m 4, starts 0 2 4, columns 0 1 0 1; values 1 -1 -1 1 twice, τ 1, signal 1 0
unfoldable pub example_job : ℕ → List ℕ
example_job map =
    numbers 2 (map ∷ 2 ∷ 4 ∷ 0 ∷ 2 ∷ 4 ∷ 0 ∷ 1 ∷ 0 ∷ 1 ∷ [])
    ++ numbers 8 (one ∷ minus_one ∷ minus_one ∷ one ∷ one ∷ minus_one ∷ minus_one ∷ one ∷ one ∷ one ∷ 0 ∷ [])

-- what it prints: `done 2`, `3fe5555555555556`, `3fd5555555555555`
unfoldable pub example_text : List ℕ
example_text =
    100 ∷ 111 ∷ 110 ∷ 101 ∷ 32 ∷ 50 ∷ 10
    ∷ 51 ∷ 102 ∷ 101 ∷ 53 ∷ 53 ∷ 53 ∷ 53 ∷ 53 ∷ 53 ∷ 53 ∷ 53 ∷ 53 ∷ 53 ∷ 53 ∷ 53 ∷ 54 ∷ 10
    ∷ 51 ∷ 102 ∷ 100 ∷ 53 ∷ 53 ∷ 53 ∷ 53 ∷ 53 ∷ 53 ∷ 53 ∷ 53 ∷ 53 ∷ 53 ∷ 53 ∷ 53 ∷ 53 ∷ 10
    ∷ []
