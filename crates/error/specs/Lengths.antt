-- The check of a length (01, row 10). Assumes nothing.
use Rattle.std.specs.Prelude.{ℕ}
use Rattle.error.specs.Checks.{refuse_unequal}
use Rattle.error.specs.declared.Refusal.TheVariants.{Length}
use Rattle.error.specs.Answer.{Checked}

-- a length that is not n is refused with that length
unfoldable pub length_fault : ℕ → ℕ → Checked
length_fault length n = refuse_unequal length n (Length length)
