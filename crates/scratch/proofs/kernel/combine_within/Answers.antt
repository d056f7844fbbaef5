-- `scratch::kernel::combine_within` meets its contract: a turn reads two elements that are not yet written, and writes what f makes of them.
use Rattle.std.proofs.Common.{arith, refl, ap₂, ◌∙◌}
use lib.Ieee.{nan}
use Rattle.scratch.proofs.Writing.{written_none, written_next, written_all, read_first}
use Rattle.scratch.proofs.kernel.combine_within.Goals as goal

pub loop-i-init : goal.loop-i-init
loop-i-init g c = λ h computes. written_none _ _ _ _

pub loop-i-preserved : goal.loop-i-preserved
loop-i-preserved g c = λ h computes.
    let written = c.loop-i.invariant h computes in
    let x-read = read_first written c.args.x (c.requires.read_first.0) (omega arith) nan in
    let y-read = read_first written c.args.y (c.requires.read_first.1) (omega arith) nan in
    written_next written (omega arith) _ _ (omega arith) (computes _ _ _ c.f.ensures ∙ ap₂ h x-read y-read)

pub returns : goal.returns
returns g c = λ h computes. written_all (c.loop-i.invariant h computes) c.loop-i-test.false refl
