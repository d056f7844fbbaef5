-- `check_segment_count` meets its contract: it makes the test of `segment_count_fault`. Assumes nothing.
use Rattle.error.proofs.Checks.{refuses, accepts}
use Rattle.graph_traj_counts.specs.CountChecks.{segment_count_fault}
use Rattle.graph_traj_counts.proofs.check_segment_count.Goals as goal

pub returns-then-segments : goal.returns-then-segments
unfolding segment_count_fault
returns-then-segments c = refuses _ _ c.if-segments.true

pub returns-else-segments : goal.returns-else-segments
unfolding segment_count_fault
returns-else-segments c = accepts _ _ c.if-segments.false
