-- `varcoef_magnus_graph_checks::all_positive` meets its contract: each weight more is joined to the answer so far. Assumes nothing.
use Rattle.std.specs.Float.{nan}
use Rattle.float.proofs.All.{all-of-none, all_more}
use Rattle.varcoef_magnus_graph_checks.proofs.all_positive.Goals as goal

pub loop-w-init : goal.loop-w-init
loop-w-init c = all-of-none _

pub loop-w-preserved : goal.loop-w-preserved
loop-w-preserved c = all_more _ _ nan _ _ _ c.loop-w-test.true c.loop-w.invariant c.is_positive-passed.ensures
