-- `check_counts` meets its contract: it makes the checks of `counts_fault` in their order. Assumes nothing.
use Rattle.error.specs.Checks.{next}
use Rattle.error.proofs.Checks.{handed_on}
use Rattle.graph_traj_counts.specs.CountChecks.{counts_fault}
use native.Mathlib.Nat.{mul-le-mul}
use Rattle.std.proofs.Common.{arith}
use Rattle.graph_traj_counts.proofs.kernel.check_counts.Goals as goal

pub returns-in_err-check_pool_count : goal.returns-in_err-check_pool_count
unfolding counts_fault next
returns-in_err-check_pool_count c = rw (← c.in_err-check_pool_count.ensures) (handed_on c.from_residual.ensures)

pub returns-in_err-check_pool_count-2 : goal.returns-in_err-check_pool_count-2
unfolding counts_fault next
returns-in_err-check_pool_count-2 c = rw (← c.in_ok-check_pool_count.ensures, ← c.in_err-check_pool_count-2.ensures) (handed_on c.from_residual-in_err-check_pool_count-2.ensures)

pub returns-in_err-check_pool_count-3 : goal.returns-in_err-check_pool_count-3
unfolding counts_fault next
returns-in_err-check_pool_count-3 c = rw (← c.in_ok-check_pool_count.ensures, ← c.in_ok-check_pool_count-2.ensures, ← c.in_err-check_pool_count-3.ensures) (handed_on c.from_residual-in_err-check_pool_count-3.ensures)

pub returns : goal.returns
unfolding counts_fault next
returns c = rw (← c.in_ok-check_pool_count.ensures, ← c.in_ok-check_pool_count-2.ensures, ← c.in_ok-check_pool_count-3.ensures) c.check_pool_count-4.ensures

pub overflow_mul-values : goal.overflow_mul-values
overflow_mul-values c =
    let bounded = mul-le-mul c.requires.0 c.requires.1 in
    omega arith
