-- `check_adjoint_step_count` meets its contract: it makes the test of `adjoint_step_count_fault`. Assumes nothing.
use Rattle.std.proofs.Common.{arith}
use borrow.Author.Tests.{lt-ltb, le-ltb}
use Rattle.error.proofs.Checks.{refuses, accepts}
use Rattle.graph_traj_adjoint_faults.specs.AdjointRunChecks.{adjoint_step_count_fault}
use Rattle.graph_traj_adjoint_checks.proofs.check_adjoint_step_count.Goals as goal

pub returns-then-steps-gt-MOST_STEPS : goal.returns-then-steps-gt-MOST_STEPS
unfolding adjoint_step_count_fault
returns-then-steps-gt-MOST_STEPS c = refuses _ _ (lt-ltb _ _ (omega arith))

pub returns-else-steps-gt-MOST_STEPS : goal.returns-else-steps-gt-MOST_STEPS
unfolding adjoint_step_count_fault
returns-else-steps-gt-MOST_STEPS c = accepts _ _ (le-ltb _ _ (omega arith))
