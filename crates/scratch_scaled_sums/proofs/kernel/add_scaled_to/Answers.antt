-- `scratch_scaled_sums::kernel::add_scaled_to` meets its contract: a turn reads out's element, which is not yet written, and the vector's.
-- One walk writes the signal sum; out is written whole.
use Rattle.std.proofs.Common.{arith, length, sym}
use lib.Ieee.{binary64, add, mul, nan}
use Rattle.arithmetic.specs.Arithmetic.{ieee}
use Rattle.arithmetic.proofs.Product.{plus-scaled-walk}
use Rattle.scratch.proofs.Parts.{get_d_part}
use Rattle.scratch.proofs.Writing.{written_none, written_next, written-whole, read-ahead}
use Rattle.scratch_scaled_sums.proofs.kernel.add_scaled_to.Goals as goal

pub loop-i-init : goal.loop-i-init
loop-i-init c = written_none _ _ _ _

pub loop-i-preserved : goal.loop-i-preserved
loop-i-preserved c =
    let a = c.args in
    let written = c.loop-i.invariant in
    let i = c.loop-i.i in
    let out-read = read-ahead written i (omega arith) nan in
    let work-read = sym (get_d_part a.at (length a.out.now) a.work.now i nan (omega arith)) in
    written_next written (omega arith) _ _ (omega arith) (λ k. add binary64 (out-read k) (mul binary64 a.scale (work-read k)))

pub returns : goal.returns
returns c = written-whole c.loop-i.invariant (omega arith) (plus-scaled-walk (ieee binary64) _ _ _ _)
