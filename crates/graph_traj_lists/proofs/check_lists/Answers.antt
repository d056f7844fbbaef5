-- `check_lists` meets its contract: it makes the checks of `lists_fault` in their order. Assumes nothing.
use Rattle.error.specs.Checks.{next}
use Rattle.error.proofs.Checks.{handed_on}
use Rattle.graph_traj_lists.specs.ListChecks.{lists_fault}
use Rattle.graph_traj_lists.proofs.check_lists.Goals as goal

pub returns-in_err-check_laws : goal.returns-in_err-check_laws
unfolding lists_fault next
returns-in_err-check_laws c = rw (← c.in_err-check_laws.ensures) (handed_on c.from_residual.ensures)

pub returns-in_err-check_pool : goal.returns-in_err-check_pool
unfolding lists_fault next
returns-in_err-check_pool c = rw (← c.in_ok-check_laws.ensures, ← c.in_err-check_pool.ensures) (handed_on c.from_residual-in_err-check_pool.ensures)

pub returns : goal.returns
unfolding lists_fault next
returns c = rw (← c.in_ok-check_laws.ensures, ← c.in_ok-check_pool.ensures) c.check_pool-2.ensures
