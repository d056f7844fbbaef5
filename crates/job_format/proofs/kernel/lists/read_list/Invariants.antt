-- Each turn reads the next element.
use Rattle.std.proofs.Common.{◌≡◌, take}
use Rattle.arithmetic.specs.Vector.{tabulate}
use Rattle.job_format.proofs.kernel.lists.read_list.Given as goal

abbrev pub invariant-loop-i : goal.invariant-loop-i
invariant-loop-i g l = take l.i l.target ≡ tabulate (g.T.Element.value l.bytes l.at) l.i
