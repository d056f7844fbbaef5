-- `scratch::kernel::store` meets its contract: a turn writes the next element of the vector at `at`, and out is written whole.
use Rattle.std.proofs.Common.{arith, refl}
use lib.Ieee.{nan}
use Rattle.scratch.proofs.Parts.{part-elements}
use Rattle.scratch.proofs.Writing.{written_none, written_next, written-whole}
use Rattle.scratch.proofs.kernel.store.Goals as goal

pub loop-i-init : goal.loop-i-init
loop-i-init c = written_none _ _ _ _

pub loop-i-preserved : goal.loop-i-preserved
loop-i-preserved c = written_next c.loop-i.invariant (omega arith) _ _ (omega arith) refl

pub returns : goal.returns
returns c = written-whole c.loop-i.invariant (omega arith) (part-elements _ _ _ nan c.requires)
