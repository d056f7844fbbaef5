-- `scratch::kernel::copy_within` meets its contract: a turn reads an element that is not written, since the vectors lie apart, and writes it.
use Rattle.std.proofs.Common.{arith}
use lib.Ieee.{nan}
use Rattle.scratch.proofs.Parts.{tabulate-part}
use Rattle.scratch.proofs.Writing.{written_none, written_next, written_all, read-apart}
use Rattle.scratch.proofs.kernel.copy_within.Goals as goal

pub loop-i-init : goal.loop-i-init
loop-i-init c = written_none _ _ _ _

pub loop-i-preserved : goal.loop-i-preserved
loop-i-preserved c =
    let written = c.loop-i.invariant in
    written_next written (omega arith) _ _ (omega arith) (read-apart written c.args.source c.requires.2 (omega arith) nan)

pub returns : goal.returns
returns c =
    let a = c.args in
    written_all c.loop-i.invariant c.loop-i-test.false (tabulate-part a.source a.n a.work.now nan c.requires.0)
