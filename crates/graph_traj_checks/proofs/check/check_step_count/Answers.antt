-- `check_step_count` meets its contract: it makes the test of `step_count_fault`. Assumes nothing.
use Rattle.error.proofs.Checks.{refuses, accepts}
use Rattle.graph_traj_faults.specs.RunChecks.{step_count_fault}
use Rattle.graph_traj_checks.proofs.check.check_step_count.Goals as goal

pub returns-then-steps : goal.returns-then-steps
unfolding step_count_fault
returns-then-steps c = refuses _ _ c.if-steps.true

pub returns-else-steps : goal.returns-else-steps
unfolding step_count_fault
returns-else-steps c = accepts _ _ c.if-steps.false
