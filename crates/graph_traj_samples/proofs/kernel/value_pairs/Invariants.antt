-- `value_pairs`: the pairs before place i are written, and `passed` is whether their numbers pass. Assumes nothing.
use Rattle.std.proofs.Common.{Bool, Float, ◌*◌, length}
use Rattle.graph_pairs.specs.Pairs.{alternate}
use Rattle.scratch.proofs.Writing.{Written}
use Rattle.graph_traj_samples.specs.Tests.{TestsBoth}
use Rattle.graph_traj_samples.proofs.Sampled.{value, SoFar}
use Rattle.graph_traj_samples.proofs.kernel.value_pairs.Given as goal

abbrev pub invariant-loop-i : goal.invariant-loop-i
invariant-loop-i g l =
    let one = value l.lists.start.now l.lists.end.now l.fractions.first in
    let two = value l.lists.start.now l.lists.end.now l.fractions.second in
    let m = length l.lists.start.now in
    ((good : Float → Bool) → TestsBoth (goal.F-post g l.both_pass) good → SoFar good one two m l.i l.passed)
    × Written l.at (alternate one two) (2 * m) l.fn.work (2 * l.i) l.work
