-- Numbers in bytes, the lowest byte first. Assumes nothing.
use Rattle.std.specs.Prelude.{List, ℕ, zero, suc, ◌+◌, ◌*◌, ◌^◌, get_or}

-- the number of k bytes at a place: the first byte, 256 times the second, 256² times the third, and so on. Past the end
-- of the bytes it reads 0.
unfoldable pub little_endian : ℕ → List ℕ → ℕ → ℕ
little_endian zero bytes at = 0
little_endian (suc k) bytes at = little_endian k bytes at + 256 ^ k * get_or bytes (at + k) 0
