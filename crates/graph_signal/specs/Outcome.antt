-- What the calls on signals answer and leave (01, part 3): row 10, with the length of the slice that is only read.
use Rattle.std.specs.Prelude.{List, length, Float}
use Rattle.std.specs.Float.{binary64}
use Rattle.arithmetic.specs.Arithmetic.{ieee}
use Rattle.arithmetic.specs.Product.{plus_scaled}
use Rattle.error.specs.Answer.{Checked}
use Rattle.error.specs.Checks.{if_accepted}
use Rattle.error.specs.Lengths.{length_fault}

-- the answer, and the signal that was written
pub record Outcome : Type 0 where
  pub answer : Checked
  pub signal : List Float

-- the signal becomes src where the lengths are equal; else it stays
abbrev pub copy_outcome : List Float → List Float → Outcome
copy_outcome signal src =
    let answer = length_fault (length src) (length signal) in
    record { answer = answer; signal = if_accepted answer src signal }

-- the signal becomes signal + alpha · src at each place where the lengths are equal; else it stays
abbrev pub sum_outcome : List Float → Float → List Float → Outcome
sum_outcome signal alpha src =
    let answer = length_fault (length src) (length signal) in
    record { answer = answer; signal = if_accepted answer (plus_scaled (ieee binary64) (length signal) signal alpha src) signal }
