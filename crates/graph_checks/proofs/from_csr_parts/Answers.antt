-- `graph_checks::from_csr_parts` meets its contract: it makes the checks of `csr_fault` in their order, and each is safe by what those before it
-- accepted. Assumes nothing.
use Rattle.std.proofs.Common.{rules, length, ◌<◌, arith, sym}
use Rattle.error.specs.Checks.{next}
use Rattle.error.proofs.Checks.{handed_on}
use Rattle.error.proofs.Left.{answers}
use Rattle.graph_counts.proofs.Sound.{entry-count-accepted}
use Rattle.graph_shape.proofs.Sound.{shape-accepted, rows-by-last}
use Rattle.graph_checks.specs.PatternChecks.{csr_fault}
use Rattle.graph_checks.proofs.from_csr_parts.Goals as goal

pub returns-in_err-check_shape : goal.returns-in_err-check_shape
unfolding csr_fault next
returns-in_err-check_shape c = answers (rw (← c.in_err-check_shape.ensures) (handed_on c.from_residual.ensures))

pub invariant_of-row_starts : goal.invariant_of-row_starts
invariant_of-row_starts c = record { accepted = rows-by-last ((shape-accepted _ _ _).0 (sym c.in_ok-check_shape.ensures)) }

pub offset_bounds-row_starts-row_starts : goal.offset_bounds-row_starts-row_starts
offset_bounds-row_starts-row_starts c =
    let rows = (shape-accepted _ _ _).0 (sym c.in_ok-check_shape.ensures) in
    let l : c.args.parts.n < length c.args.parts.row_ptr.now = omega arith in
    search rules

pub returns-in_err-check_entry_count : goal.returns-in_err-check_entry_count
unfolding csr_fault next
returns-in_err-check_entry_count c =
    answers
    (rw (← c.in_ok-check_shape.ensures, ← c.in_err-check_entry_count.ensures)
    (handed_on c.from_residual-in_err-check_entry_count.ensures))

pub invariant_of-check_columns : goal.invariant_of-check_columns
invariant_of-check_columns c = let rows = (shape-accepted _ _ _).0 (sym c.in_ok-check_shape.ensures) in record { count = sym rows.last }

pub returns-in_err-check_columns : goal.returns-in_err-check_columns
unfolding csr_fault next
returns-in_err-check_columns c =
    answers
    (rw (← c.in_ok-check_shape.ensures, ← c.in_ok-check_entry_count.ensures, ← c.in_err-check_columns.ensures)
    (handed_on c.from_residual-in_err-check_columns.ensures))

pub invariant_of-check_values : goal.invariant_of-check_values
invariant_of-check_values c = record { count = (entry-count-accepted _ _).0 (sym c.in_ok-check_entry_count.ensures) }

pub returns : goal.returns
unfolding csr_fault next
returns c =
    answers
    (rw (← c.in_ok-check_shape.ensures, ← c.in_ok-check_entry_count.ensures, ← c.in_ok-check_columns.ensures)
    c.check_values.ensures)
