-- `check_lookup` meets its contract: it makes the checks of `lookup_fault` in their order, and reads the breakpoints where their number has been checked. Assumes nothing.
use Rattle.error.specs.Checks.{next}
use Rattle.error.proofs.Checks.{handed_on}
use Rattle.graph_traj_breakpoints.specs.LookupChecks.{lookup_fault}
use Rattle.std.proofs.Common.{sym, arith}
use Rattle.graph_traj_counts.proofs.Sound.{segment-count-accepted, pool-count-accepted}
use Rattle.graph_traj_breakpoints.proofs.check_lookup.Goals as goal

pub returns-in_err-check_segment_count : goal.returns-in_err-check_segment_count
unfolding lookup_fault next
returns-in_err-check_segment_count c = rw (← c.in_err-check_segment_count.ensures) (handed_on c.from_residual.ensures)

pub returns-in_err-check_pool_count : goal.returns-in_err-check_pool_count
unfolding lookup_fault next
returns-in_err-check_pool_count c = rw (← c.in_ok-check_segment_count.ensures, ← c.in_err-check_pool_count.ensures) (handed_on c.from_residual-in_err-check_pool_count.ensures)

pub returns-in_err-check_breakpoints : goal.returns-in_err-check_breakpoints
unfolding lookup_fault next
returns-in_err-check_breakpoints c = rw (← c.in_ok-check_segment_count.ensures, ← c.in_ok-check_pool_count.ensures, ← c.in_err-check_breakpoints.ensures) (handed_on c.from_residual-in_err-check_breakpoints.ensures)

pub returns : goal.returns
unfolding lookup_fault next
returns c = rw (← c.in_ok-check_segment_count.ensures, ← c.in_ok-check_pool_count.ensures, ← c.in_ok-check_breakpoints.ensures) c.check_lookup_time.ensures

pub overflow_add-segments : goal.overflow_add-segments
overflow_add-segments c =
    let few = (segment-count-accepted _).0 (sym c.in_ok-check_segment_count.ensures) in
    omega arith

pub bounds-breakpoints-0 : goal.bounds-breakpoints-0
bounds-breakpoints-0 c =
    let counted = (pool-count-accepted _ _).0 (sym c.in_ok-check_pool_count.ensures) in
    omega arith

pub offset_bounds-breakpoints-segments : goal.offset_bounds-breakpoints-segments
offset_bounds-breakpoints-segments c =
    let few = (segment-count-accepted _).0 (sym c.in_ok-check_segment_count.ensures) in
    omega arith

pub bounds-breakpoints-segments : goal.bounds-breakpoints-segments
bounds-breakpoints-segments c =
    let counted = (pool-count-accepted _ _).0 (sym c.in_ok-check_pool_count.ensures) in
    omega arith
