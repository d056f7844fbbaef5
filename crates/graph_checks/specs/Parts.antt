-- The check of a Laplacian's parts as a caller lends them. Assumes nothing.
use Rattle.error.specs.Answer.{Checked}
use Rattle.graph_checks.specs.PatternChecks.{csr_fault}
use Rattle.graph_checks.specs.declared.CsrParts.{CsrParts}

-- what is wrong with the parts: 6, 1, 2, 3 for the columns and then for the values, 4, 5
abbrev pub parts_fault : CsrParts → Checked
parts_fault p = csr_fault p.n p.row_ptr.now p.col_idx.now p.vals.now
