-- `check_one_segment` meets its contract: it makes the test of `one_segment_fault`. Assumes nothing.
use Rattle.error.proofs.Checks.{accepts-equal, refuses-unequal}
use Rattle.graph_traj_parts.specs.TrajectoryChecks.{one_segment_fault}
use Rattle.graph_traj_parts.proofs.check_one_segment.Goals as goal

pub returns-then-segments-eq1 : goal.returns-then-segments-eq1
unfolding one_segment_fault
returns-then-segments-eq1 c = accepts-equal _ _ _ c.if-segments-eq1.true

pub returns-else-segments-eq1 : goal.returns-else-segments-eq1
unfolding one_segment_fault
returns-else-segments-eq1 c = refuses-unequal _ _ _ c.if-segments-eq1.false
