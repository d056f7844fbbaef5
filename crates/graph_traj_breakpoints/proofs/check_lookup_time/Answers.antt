-- `check_lookup_time` meets its contract: it makes the test of `lookup_time_fault`. Assumes nothing.
use Rattle.std.proofs.Common.{ap, not}
use Rattle.error.proofs.Checks.{refuses, accepts}
use Rattle.graph_traj_breakpoints.specs.LookupChecks.{lookup_time_fault}
use Rattle.graph_traj_breakpoints.proofs.check_lookup_time.Goals as goal

pub returns-then-first-t : goal.returns-then-first-t
unfolding lookup_time_fault
returns-then-first-t c = accepts _ _ (ap not c.if-first-t.true)

pub returns-else-first-t : goal.returns-else-first-t
unfolding lookup_time_fault
returns-else-first-t c = refuses _ _ (ap not c.if-first-t.false)
