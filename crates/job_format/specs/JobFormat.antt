-- The bytes of a job (01, "The job program"). Every read is defined: past the end of the bytes it gives 0. Assumes nothing.
use Rattle.std.specs.Prelude.{Bool, not, cond, ◌||◌, List, [], ◌∷◌, ℕ, zero, suc, ◌+◌, ◌*◌, min, eqb, ltb, length, get_or, Float}
use Rattle.std.specs.Float.{binary64}
use Rattle.std.specs.Float.Ieee.{of_bits}
use Rattle.arithmetic.specs.Vector.{tabulate}
use Rattle.error.specs.Checks.{refuse_if}
use Rattle.error.specs.declared.Refusal.TheVariants.{Malformed}
use Rattle.error.specs.Answer.{Checked}
use Rattle.little_endian.specs.LittleEndian.{little_endian}
-- the map: whether a bit of it stands, the bits that no job lacks, whether it is allowed
unfoldable pub use Rattle.job_checks.specs.Map.{stands, required, allowed}

-- ---- numbers and reals, little-endian

-- the number of 16 bits at a place
unfoldable pub word16 : List ℕ → ℕ → ℕ
word16 bytes at = little_endian 2 bytes at

-- the real at a place: 8 bytes, a bit pattern. Every NaN's pattern gives a NaN.
unfoldable pub real : List ℕ → ℕ → Float
real bytes at = of_bits binary64 (little_endian 8 bytes at)

-- k numbers, and k reals, one after the other from a place on
unfoldable pub words16 : List ℕ → ℕ → ℕ → List ℕ
words16 bytes at k = tabulate (λ i. word16 bytes (at + 2 * i)) k

unfoldable pub reals : List ℕ → ℕ → ℕ → List Float
reals bytes at k = tabulate (λ i. real bytes (at + 8 * i)) k

-- ---- the fields: the map, and then those whose bit stands, in bit order

-- how many bytes the field of each bit has, from bit 0 to bit 8, for n nodes and m entries
unfoldable pub field_sizes : ℕ → ℕ → List ℕ
field_sizes n m =
    -- n, m, row starts, columns
    (4 + 2 * (n + 1) + 2 * m)
    -- the values of the three samples
    ∷ (8 * m)
    ∷ (8 * m)
    ∷ (8 * m)
    -- τ, the bound
    ∷ 8
    ∷ 8
    -- the root bound, weights one, weights two
    ∷ (8 + 8 * n + 8 * n)
    -- the signal
    ∷ (8 * n)
    -- the adjoint has no bytes
    ∷ 0
    ∷ []

-- where the field of a bit starts: after the map and the fields of the lower bits that stand. The job ends where that of bit 9 would
-- start.
unfoldable pub field_start : ℕ → ℕ → ℕ → ℕ → ℕ
field_start map n m zero = 2
field_start map n m (suc bit) = field_start map n m bit + cond (stands map bit) (get_or (field_sizes n m) bit 0) 0

-- ---- what the bytes of a job say

module _ (bytes : List ℕ) where
  -- the map; n and m, with which the field of bit 0 begins
  unfoldable pub job_map : ℕ
  job_map = word16 bytes 0

  unfoldable pub job_nodes : ℕ
  job_nodes = word16 bytes 2

  unfoldable pub job_entries : ℕ
  job_entries = word16 bytes 4

  -- whether a bit stands, and where its field starts
  unfoldable pub job_has : ℕ → Bool
  job_has bit = stands job_map bit

  unfoldable pub job_field : ℕ → ℕ
  job_field bit = field_start job_map job_nodes job_entries bit

  -- a job that is refused: under 2 bytes, over 16,384, a map that is not allowed, n > 64, m > 512, or another length than the map calls for
  unfoldable pub malformed : Bool
  malformed =
      ltb (length bytes) 2
      || (ltb 16384 (length bytes)
      || (not (allowed job_map)
      || (ltb 64 job_nodes
      || (ltb 512 job_entries
      || not (eqb (length bytes) (job_field 9))))))

  -- row 21: the byte count, or 16,385 for anything longer
  unfoldable pub malformed_fault : Checked
  malformed_fault = refuse_if malformed (Malformed (min (length bytes) 16385))

  -- bit 0: the row starts and the columns, which all samples share
  unfoldable pub job_row_starts : List ℕ
  job_row_starts = words16 bytes (job_field 0 + 4) (job_nodes + 1)

  unfoldable pub job_columns : List ℕ
  job_columns = words16 bytes (job_field 0 + 4 + 2 * (job_nodes + 1)) job_entries

  -- bits 1, 2 and 3: the values of a sample
  unfoldable pub job_values : ℕ → List Float
  job_values bit = reals bytes (job_field bit) job_entries

  -- bit 4: τ
  unfoldable pub job_tau : Float
  job_tau = real bytes (job_field 4)

  -- bit 5: the bound, or 1 where it does not stand
  unfoldable pub job_bound : Float
  job_bound = cond (job_has 5) (real bytes (job_field 5)) (of_bits binary64 0x3FF0_0000_0000_0000)

  -- bit 6: the root bound, weights one, weights two
  unfoldable pub job_root_bound : Float
  job_root_bound = real bytes (job_field 6)

  unfoldable pub job_weights1 : List Float
  job_weights1 = reals bytes (job_field 6 + 8) job_nodes

  unfoldable pub job_weights2 : List Float
  job_weights2 = reals bytes (job_field 6 + 8 + 8 * job_nodes) job_nodes

  -- bit 7: the signal
  unfoldable pub job_signal : List Float
  job_signal = reals bytes (job_field 7) job_nodes

-- what a job says
pub record Job : Type 0 where
  pub nodes : ℕ
  pub starts : List ℕ
  pub cols : List ℕ
  pub vals1 : List Float
  pub vals2 : List Float
  pub vals3 : List Float
  pub tau : Float
  -- the spectral bound, and whether row 8 is checked
  pub bound : Float
  pub checked : Bool
  pub root_bound : Float
  pub weights1 : List Float
  pub weights2 : List Float
  pub signal : List Float
  -- which step it asks for
  pub order6 : Bool
  pub weighted : Bool
  pub adjoint : Bool

-- the job that bytes which are not malformed say. The step that it asks for takes no field whose bit does not stand.
abbrev pub job_of : List ℕ → Job
job_of bytes = record {
  nodes = job_nodes bytes;
  starts = job_row_starts bytes;
  cols = job_columns bytes;
  vals1 = job_values bytes 1;
  vals2 = job_values bytes 2;
  vals3 = job_values bytes 3;
  tau = job_tau bytes;
  bound = job_bound bytes;
  checked = job_has bytes 5;
  root_bound = job_root_bound bytes;
  weights1 = job_weights1 bytes;
  weights2 = job_weights2 bytes;
  signal = job_signal bytes;
  order6 = job_has bytes 3;
  weighted = job_has bytes 6;
  adjoint = job_has bytes 8;
}
