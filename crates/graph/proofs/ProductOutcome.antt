-- The answer of the row product, from what its three checks answered, and what the checks have shown where all accept. Assumes nothing.
use mathlib.Core.Path.{◌≡◌}
use mathlib.Core.List.{List}
use Prim.Native.Nat.{ℕ}
use lib.ListN.{length}
use lib.Ieee.{Float}
use Rattle.error.specs.declared.Refusal.{Refusal}
use Rattle.error.specs.Answer.{Checked}
use Rattle.error.specs.Answer.{Accepted, Refused}
use Rattle.error.specs.Lengths.{length_fault}
use Rattle.error.specs.Refusals.{Answers}
use Rattle.error.proofs.Checks.{refused-here, accepted-then, length-accepted}
use Rattle.error.proofs.Left.{answers, fault-is, fault-accepted}
use Rattle.graph_checks.specs.Pattern.{Laplacian}
use Rattle.graph_checks.specs.PatternChecks.{csr_fault}
use Rattle.graph.specs.ProductOutcome.{product_fault}
use Rattle.graph_checks.proofs.Sound.{csr-accepted}

-- what a checked Laplacian has
pub laplacian-is : {check : Checked} (n : ℕ) (starts cols : List ℕ) (vals : List Float)
    → Answers check (csr_fault n starts cols vals)
    → check ≡ Accepted
    → Laplacian n starts cols vals
laplacian-is n starts cols vals h p = (csr-accepted n starts cols vals).0 (fault-accepted h p)

module _ (n : ℕ) (starts cols : List ℕ) (vals signal output : List Float) where
  abbrev fault : Checked
  fault = product_fault n starts cols vals signal output

  -- the Laplacian is refused
  pub laplacian-refused : {l : Checked} {r : Refusal} → Answers l (csr_fault n starts cols vals) → l ≡ Refused r → Answers l fault
  unfolding product_fault
  laplacian-refused h p = answers (refused-here _ _ _ _ (fault-is h) p)

  module _ {l : Checked} (checked : Answers l (csr_fault n starts cols vals)) (accepted : l ≡ Accepted) where
    -- the signal is refused
    pub signal-refused : {s : Checked} {r : Refusal} → Answers s (length_fault (length signal) n) → s ≡ Refused r → Answers s fault
    unfolding product_fault
    signal-refused h p = answers (accepted-then _ _ _ _ (fault-is checked) accepted (refused-here _ _ _ _ (fault-is h) p))

    -- the output's check is the last, and its answer is the call's
    pub output-checked : {s o : Checked}
        → Answers s (length_fault (length signal) n)
        → s ≡ Accepted
        → Answers o (length_fault (length output) n)
        → Answers o fault
    unfolding product_fault
    output-checked h p g =
        answers (accepted-then _ _ _ _ (fault-is checked) accepted (accepted-then _ _ _ _ (fault-is h) p (fault-is g)))

-- lengths that were accepted
pub length-is : {check : Checked} (l n : ℕ) → Answers check (length_fault l n) → check ≡ Accepted → l ≡ n
length-is l n h p = (length-accepted l n).0 (fault-accepted h p)
