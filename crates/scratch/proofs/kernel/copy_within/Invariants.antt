-- `scratch::kernel::copy_within`: the elements of the vector at `source` that were passed are written.
use lib.ListN.{get_or}
use lib.Ieee.{nan}
use Rattle.scratch.specs.Parts.{part}
use Rattle.scratch.proofs.Writing.{Written}
use Rattle.scratch.proofs.kernel.copy_within.Given as goal

abbrev pub invariant-loop-i : goal.invariant-loop-i
invariant-loop-i l = Written l.target (λ k. get_or (part l.source l.n l.fn.work) k nan) l.n l.fn.work l.i l.work
