-- `sqrt_into_slice`: the roots of the first `done` elements are written.
use Rattle.std.proofs.Common.{length}
use lib.Ieee.{binary64}
use Rattle.ieee_square_root.specs.SquareRoot.{square_root}
use Rattle.square_roots.proofs.Blocks.{Imaged}
use Rattle.square_roots.proofs.kernel.sqrt_into_slice.Given as goal

abbrev pub invariant-loop-done : goal.invariant-loop-done
invariant-loop-done l = Imaged (square_root binary64) l.src l.fn.dst (length l.src) 0 0 l.done l.dst
