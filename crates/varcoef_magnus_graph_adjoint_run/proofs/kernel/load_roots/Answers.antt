-- `load_roots` meets its contract: the part of the slice that is lent for the roots comes back as the vector of roots, and the rest is as it was.
-- Assumes nothing.
use Rattle.std.specs.Float.{binary64}
use Rattle.ieee_square_root.specs.SquareRoot.{square_root}
use Rattle.scratch.proofs.Parts.{image-placed}
use Rattle.varcoef_magnus_graph_adjoint_run.proofs.kernel.load_roots.Goals as goal

pub returns : goal.returns
returns c = image-placed (square_root binary64) c.args.at c.args.weights.now c.args.work.now _ c.requires c.sqrt_into_slice.ensures
