-- `check_first_breakpoint` meets its contract: it makes the test of `first_breakpoint_fault`. Assumes nothing.
use Rattle.std.proofs.Common.{ap, not}
use Rattle.error.proofs.Checks.{refuses, accepts}
use Rattle.graph_traj_parts.specs.TrajectoryChecks.{first_breakpoint_fault}
use Rattle.graph_traj_parts.proofs.check_first_breakpoint.Goals as goal

pub returns-then-first : goal.returns-then-first
unfolding first_breakpoint_fault
returns-then-first c = accepts _ _ (ap not c.if-first.true)

pub returns-else-first : goal.returns-else-first
unfolding first_breakpoint_fault
returns-else-first c = refuses _ _ (ap not c.if-first.false)
