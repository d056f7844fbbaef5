-- `estimate_within` meets its contract: a turn writes the next element, whatever it is. Assumes nothing.
use Rattle.std.proofs.Common.{arith}
use Rattle.square_roots_estimates.proofs.Overwriting.{overwritten-none, overwritten-next}
use Rattle.square_roots_estimates.proofs.kernel.estimate_within.Goals as goal

pub loop-i-init : goal.loop-i-init
loop-i-init c = overwritten-none c.args.target c.args.work.now

pub loop-i-preserved : goal.loop-i-preserved
loop-i-preserved c = overwritten-next c.loop-i.invariant _ c.estimate.result (omega arith)
