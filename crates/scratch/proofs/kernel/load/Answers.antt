-- `scratch::kernel::load` meets its contract: a turn writes the next element of v, and v is the vector of its own elements.
use Rattle.std.proofs.Common.{arith, refl}
use lib.Ieee.{nan}
use Rattle.arithmetic.proofs.Tabulate.{tabulate-elements}
use Rattle.scratch.proofs.Writing.{written_none, written_next, written_all}
use Rattle.scratch.proofs.kernel.load.Goals as goal

pub loop-i-init : goal.loop-i-init
loop-i-init c = written_none _ _ _ _

pub loop-i-preserved : goal.loop-i-preserved
loop-i-preserved c = written_next c.loop-i.invariant (omega arith) _ _ (omega arith) refl

pub returns : goal.returns
returns c = written_all c.loop-i.invariant (omega arith) (tabulate-elements _ nan)
