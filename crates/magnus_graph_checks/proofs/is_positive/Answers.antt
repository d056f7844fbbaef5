-- `magnus_graph_checks::is_positive` meets its contract: its test is that of `positive-by-tests`. Assumes nothing.
use Rattle.magnus_graph_faults.proofs.Positive.{positive-by-tests}
use Rattle.magnus_graph_checks.proofs.is_positive.Goals as goal

pub returns : goal.returns
returns c = rw c.is_finite.ensures (positive-by-tests c.args.x)
