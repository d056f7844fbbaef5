-- What the row product answers and leaves (01, part 1).
use Rattle.std.specs.Prelude.{List, ℕ, length, Float}
use Rattle.error.specs.Answer.{Checked}
use Rattle.error.specs.Checks.{next, if_accepted}
use Rattle.error.specs.Lengths.{length_fault}
use Rattle.graph_checks.specs.PatternChecks.{csr_fault}
use Rattle.graph_checks.specs.declared.CsrParts.{CsrParts}
use Rattle.graph_rows.specs.RowProduct.{row_product64}

-- its checks: those of the Laplacian, then row 10 for the signal and for the output
unfoldable pub product_fault : ℕ → List ℕ → List ℕ → List Float → List Float → List Float → Checked
product_fault n starts cols vals signal output =
    next (csr_fault n starts cols vals)
    (next (length_fault (length signal) n)
    (length_fault (length output) n))

-- the answer, and the output afterwards
pub record ProductOutcome : Type 0 where
  pub answer : Checked
  pub output : List Float

-- the output becomes the row product where all checks accept; else it stays
abbrev pub product_outcome : ℕ → List ℕ → List ℕ → List Float → List Float → List Float → ProductOutcome
product_outcome n starts cols vals signal output =
    let answer = product_fault n starts cols vals signal output in
    record { answer = answer; output = if_accepted answer (row_product64 n starts cols vals signal) output }

-- the same of a Laplacian's parts, as a caller lends them
abbrev pub product_outcome_of : CsrParts → List Float → List Float → ProductOutcome
product_outcome_of p signal output = product_outcome p.n p.row_ptr.now p.col_idx.now p.vals.now signal output
