-- `graph_checks::check_pattern` meets its contract: it makes the checks of `pattern_fault` in their order. Assumes nothing.
use Rattle.std.proofs.Common.{sym}
use Rattle.error.specs.Checks.{next}
use Rattle.error.proofs.Checks.{handed_on}
use Rattle.error.proofs.Left.{answers}
use Rattle.graph_shape.proofs.Sound.{shape-accepted, rows-by-last}
use Rattle.graph_checks.specs.PatternChecks.{pattern_fault}
use Rattle.graph_checks.proofs.check_pattern.Goals as goal

pub returns-in_err-check_shape : goal.returns-in_err-check_shape
unfolding pattern_fault next
returns-in_err-check_shape c = answers (rw (← c.in_err-check_shape.ensures) (handed_on c.from_residual.ensures))

pub invariant_of-row_starts : goal.invariant_of-row_starts
invariant_of-row_starts c = record { accepted = rows-by-last ((shape-accepted _ _ _).0 (sym c.in_ok-check_shape.ensures)) }

pub invariant_of-check_columns : goal.invariant_of-check_columns
invariant_of-check_columns c = let rows = (shape-accepted _ _ _).0 (sym c.in_ok-check_shape.ensures) in record { count = sym rows.last }

pub returns : goal.returns
unfolding pattern_fault next
returns c = answers (rw (← c.in_ok-check_shape.ensures) c.check_columns.ensures)
