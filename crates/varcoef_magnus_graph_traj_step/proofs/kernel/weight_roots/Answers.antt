-- `weight_roots` meets its contract: the second call finds its half of the weights as it was. Assumes nothing.
use Rattle.std.proofs.Common.{arith}
use Rattle.std.specs.Float.{binary64}
use Rattle.ieee_square_root.specs.SquareRoot.{square_root}
use Rattle.varcoef_magnus_graph_traj_step.proofs.WeightRoots.{in_halves}
use Rattle.varcoef_magnus_graph_traj_step.proofs.kernel.weight_roots.Goals as goal

pub returns : goal.returns
returns c = in_halves (square_root binary64) c.args.n c.args.work.now (omega arith) _ _ c.roots_in.ensures c.roots_in-2.ensures
