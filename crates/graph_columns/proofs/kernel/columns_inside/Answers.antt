-- `graph_columns::kernel::columns_inside` meets its contract: each turn has the answer of one column more. The code compares 32-bit numbers, n
-- among them, which n <= 4,096 allows.
use Rattle.std.proofs.Common.{arith, refl}
use Rattle.float.proofs.All.{all-of-none, all_more, all-passed}
use Rattle.graph_columns.proofs.kernel.columns_inside.Goals as goal

pub loop-column-init : goal.loop-column-init
loop-column-init c = all-of-none _

pub loop-column-preserved : goal.loop-column-preserved
loop-column-preserved c = all_more _ _ 0 _ _ _ (omega arith) c.loop-column.invariant refl

pub returns : goal.returns
returns c = all-passed _ _ _ _ (omega arith) c.loop-column.invariant
