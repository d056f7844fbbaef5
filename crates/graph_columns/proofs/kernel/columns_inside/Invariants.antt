-- `graph_columns::kernel::columns_inside`: the answer so far is that of the columns passed.
use Rattle.std.proofs.Common.{◌≡◌, take}
use lib.Dec.{ltb}
use Rattle.float.specs.All.{all}
use Rattle.graph_columns.proofs.kernel.columns_inside.Given as goal

abbrev pub invariant-loop-column : goal.invariant-loop-column
invariant-loop-column l = l.passed ≡ all (λ column. ltb column l.n) (take l.column-index l.col_idx)
