-- `graph_counts::kernel::check_row_start_count` meets its contract: it makes the test of `row_start_count_fault`.
use Rattle.error.proofs.Checks.{accepts-equal, refuses-unequal}
use Rattle.graph_counts.specs.CountChecks.{row_start_count_fault}
use Rattle.graph_counts.proofs.kernel.check_row_start_count.Goals as goal

pub returns-then-count-n : goal.returns-then-count-n
unfolding row_start_count_fault
returns-then-count-n c = accepts-equal _ _ _ c.if-count-n.true

pub returns-else-count-n : goal.returns-else-count-n
unfolding row_start_count_fault
returns-else-count-n c = refuses-unequal _ _ _ c.if-count-n.false
