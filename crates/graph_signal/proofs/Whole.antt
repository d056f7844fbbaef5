-- A slice read as the vector at 0, of another's length: where the two lengths are equal it is the whole slice. Assumes nothing.
use mathlib.Core.Path.{◌≡◌, sym, ap, ◌∙◌}
use mathlib.Core.List.{List}
use Prim.Native.Nat.{ℕ, ◌+◌, ◌≤◌}
use native.Mathlib.Omega.{arith}
use lib.ListN.{length}
use lib.Ieee.{Float}
use Rattle.scratch.specs.Parts.{part}
use Rattle.scratch.proofs.Parts.{part-whole}
use Rattle.error.specs.Refusals.{Answers}
use Rattle.error.specs.Lengths.{length_fault}
use Rattle.error.specs.Answer.{Checked}
use Rattle.error.specs.Answer.{Accepted}
use Rattle.error.proofs.Checks.{length-accepted}
use Rattle.error.proofs.Left.{fault-accepted}

-- what the accepted check says of the lengths
pub equal-lengths : {check : Checked} (l n : ℕ) → Answers check (length_fault l n) → check ≡ Accepted → l ≡ n
equal-lengths l n h p = (length-accepted l n).0 (fault-accepted h p)

pub within : (l n : ℕ) → l ≡ n → 0 + n ≤ l
within l n p = omega arith

pub whole : (src : List Float) (n : ℕ) → length src ≡ n → part 0 n src ≡ src
whole src n p = ap (λ (k : ℕ). part 0 k src) (sym p) ∙ part-whole src
