-- `settle_into_slice` meets its contract: a turn reads the next element and writes its root, which `root_near` gives from any guess.
use Rattle.std.proofs.Common.{arith, sym}
use Rattle.scratch.proofs.Writing.{written_none, written_next, written-whole}
use Rattle.square_roots_estimates.proofs.Roots.{roots-of}
use Rattle.square_roots_estimates.proofs.kernel.settle_into_slice.Goals as goal

pub loop-i-init : goal.loop-i-init
loop-i-init c = written_none _ _ _ _

pub loop-i-preserved : goal.loop-i-preserved
loop-i-preserved c = written_next c.loop-i.invariant (omega arith) _ _ (omega arith) c.root_near.ensures

pub returns : goal.returns
returns c = written-whole c.loop-i.invariant (omega arith) (roots-of c.args.src.now (sym c.requires))
