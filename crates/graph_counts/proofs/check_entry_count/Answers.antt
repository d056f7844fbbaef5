-- `graph_counts::check_entry_count` meets its contract: it makes the test of `entry_count_fault`.
use Rattle.error.proofs.Checks.{accepts-equal, refuses-unequal}
use Rattle.graph_counts.specs.CountChecks.{entry_count_fault}
use Rattle.graph_counts.proofs.check_entry_count.Goals as goal

pub returns-then-count-last : goal.returns-then-count-last
unfolding entry_count_fault
returns-then-count-last c = accepts-equal _ _ _ c.if-count-last.true

pub returns-else-count-last : goal.returns-else-count-last
unfolding entry_count_fault
returns-else-count-last c = refuses-unequal _ _ _ c.if-count-last.false
