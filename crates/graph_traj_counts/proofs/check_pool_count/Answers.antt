-- `check_pool_count` meets its contract: it makes the test of `pool_count_fault`. Assumes nothing.
use Rattle.error.proofs.Checks.{accepts-equal, refuses-unequal}
use Rattle.graph_traj_counts.specs.CountChecks.{pool_count_fault}
use Rattle.graph_traj_counts.proofs.check_pool_count.Goals as goal

pub returns-then-count-wanted : goal.returns-then-count-wanted
unfolding pool_count_fault
returns-then-count-wanted c = accepts-equal _ _ _ c.if-count-wanted.true

pub returns-else-count-wanted : goal.returns-else-count-wanted
unfolding pool_count_fault
returns-else-count-wanted c = refuses-unequal _ _ _ c.if-count-wanted.false
