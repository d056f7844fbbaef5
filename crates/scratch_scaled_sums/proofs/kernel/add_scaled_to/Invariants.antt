-- `scratch_scaled_sums::kernel::add_scaled_to`: the sums at the places passed are written.
use Rattle.std.proofs.Common.{length}
use lib.Ieee.{binary64}
use Rattle.arithmetic.specs.Arithmetic.{ieee}
use Rattle.arithmetic.proofs.Product.{plus_scaled_at}
use Rattle.scratch.specs.Parts.{part}
use Rattle.scratch.proofs.Writing.{Written}
use Rattle.scratch_scaled_sums.proofs.kernel.add_scaled_to.Given as goal

abbrev pub invariant-loop-i : goal.invariant-loop-i
invariant-loop-i l =
    let n = length l.fn.out in
    Written 0 (plus_scaled_at (ieee binary64) l.fn.out l.scale (part l.at n l.work)) n l.fn.out l.i l.out
