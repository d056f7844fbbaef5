-- `graph_rows::kernel::Sample::product` meets its contract: a turn writes the sums of two rows to the next places. A last row may be left. Assumes
-- nothing.
use Rattle.std.proofs.Common.{◌≡◌, refl, ◌+◌, arith}
use Rattle.scratch.proofs.Writing.{written_none, written_next, written-whole}
use Rattle.graph_rows.proofs.kernel.Sample.product.Goals as goal

pub loop-i-init : goal.loop-i-init
loop-i-init c = written_none _ _ _ _

pub overflow_add-i : goal.overflow_add-i
overflow_add-i c = omega (arith, c.args.self.pattern.accepted.rows.few-rows)

pub loop-i-preserved : goal.loop-i-preserved
loop-i-preserved c =
    let i = c.loop-i.i in
    let one = written_next c.loop-i.invariant (omega arith) i _ (omega arith) c.row_sum-acc.ensures in
    let two = written_next one (omega arith) (i + 1) _ (omega arith) c.row_sum-next.ensures in
    let twice : i + 1 + 1 ≡ i + 2 = omega arith in
    rw twice at two

pub returns-then-i-n : goal.returns-then-i-n
returns-then-i-n c =
    let one = written_next c.loop-i.invariant (omega arith) c.loop-i.i _ (omega arith) c.row_sum.ensures in
    written-whole one (omega arith) (rw c.requires.out_len refl)

pub returns-else-i-n : goal.returns-else-i-n
returns-else-i-n c = written-whole c.loop-i.invariant (omega arith) (rw c.requires.out_len refl)
