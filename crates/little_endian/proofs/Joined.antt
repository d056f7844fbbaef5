-- A number of bytes from two parts of them. Assumes nothing.
use mathlib.Core.Path.{◌≡◌}
use mathlib.Core.List.{List}
use Prim.Native.Nat.{ℕ, zero, suc, ◌+◌, ◌*◌, ◌^◌}
use native.Mathlib.Nat.{add-zero, add-suc, add_assoc, mul-add, mul_assoc, mul-zero}
use native.Mathlib.Omega.{arith}
use lib.Pow.{pow-add}
use lib.ListN.{get_or}
use Rattle.little_endian.specs.LittleEndian.{little_endian}

-- two bytes
pub two : (bytes : List ℕ) (at : ℕ) → get_or bytes at 0 + 256 * get_or bytes (at + 1) 0 ≡ little_endian 2 bytes at
unfolding little_endian
two bytes at = rw add-zero (omega arith)

-- k bytes and then l bytes
pub joined : (k l : ℕ) (bytes : List ℕ) (at : ℕ)
    → little_endian k bytes at + 256 ^ k * little_endian l bytes (at + k) ≡ little_endian (k + l) bytes at
unfolding little_endian
joined k zero bytes at = rw (mul-zero, add-zero k, add-zero)
joined k (suc l) bytes at =
    rw (add-suc, mul-add, ← add_assoc, joined k l bytes at, ← mul_assoc, pow-add, add_assoc at k l)
