-- `graph_shape::check_shape` meets its contract: it makes the checks of `shape_fault` in their order, and each is safe by what those before it
-- accepted. Assumes nothing.
use Rattle.std.proofs.Common.{◌≡◌, rules, length, ◌+◌, ◌<◌, arith, sym}
use Rattle.error.specs.Checks.{next}
use Rattle.error.proofs.Checks.{handed_on}
use Rattle.graph_counts.proofs.Sound.{size-accepted, row-start-count-accepted}
use Rattle.graph_shape.specs.ShapeChecks.{shape_fault}
use Rattle.graph_shape.proofs.check_shape.Goals as goal

pub returns-in_err-check_size : goal.returns-in_err-check_size
unfolding shape_fault next
returns-in_err-check_size c = rw (← c.in_err-check_size.ensures) (handed_on c.from_residual.ensures)

pub check_row_start_count-requires : goal.check_row_start_count-requires
check_row_start_count-requires c = ((size-accepted _ _).0 (sym c.in_ok-check_size.ensures)).0

pub returns-in_err-check_row_start_count : goal.returns-in_err-check_row_start_count
unfolding shape_fault next
returns-in_err-check_row_start_count c =
    rw (← c.in_ok-check_size.ensures, ← c.in_err-check_row_start_count.ensures)
    (handed_on c.from_residual-in_err-check_row_start_count.ensures)

-- there are n + 1 row starts
count : (c : goal.In_ok-check_row_start_count) → length c.args.row_ptr.now ≡ c.args.n + 1
count c = (row-start-count-accepted _ _).0 (sym c.in_ok-check_row_start_count.ensures)

pub check_row_starts-requires : goal.check_row_starts-requires
check_row_starts-requires c = count c

pub returns-in_err-check_row_starts : goal.returns-in_err-check_row_starts
unfolding shape_fault next
returns-in_err-check_row_starts c =
    rw (← c.in_ok-check_size.ensures, ← c.in_ok-check_row_start_count.ensures, ← c.in_err-check_row_starts.ensures)
    (handed_on c.from_residual-in_err-check_row_starts.ensures)

pub offset_bounds-row_ptr-n : goal.offset_bounds-row_ptr-n
offset_bounds-row_ptr-n c =
    let l : c.args.n < length c.args.row_ptr.now = omega (arith, (row-start-count-accepted _ _).0 (sym c.in_ok-check_row_start_count.ensures)) in
    search rules

pub bounds-row_ptr-n : goal.bounds-row_ptr-n
bounds-row_ptr-n c = omega (arith, (row-start-count-accepted _ _).0 (sym c.in_ok-check_row_start_count.ensures))

pub returns : goal.returns
unfolding shape_fault next
returns c =
    rw (← c.in_ok-check_size.ensures, ← c.in_ok-check_row_start_count.ensures, ← c.in_ok-check_row_starts.ensures)
    c.check_entry_count.ensures
