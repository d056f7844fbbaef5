-- `graph_rows::kernel::Sample::row_sum` meets its contract: the invariant adds one entry a turn, and after the last turn k is the row's end.
-- Assumes nothing.
use Rattle.std.proofs.Common.{◌≡◌, ◌+◌, slice_index_or, sym, ap, ◌∙◌, arith}
use Rattle.std.specs.Float.{binary64}
use Rattle.arithmetic.specs.Arithmetic.{ieee}
use Rattle.arithmetic.specs.Product.{entries, row_sum}
use Rattle.arithmetic.proofs.Product.{entries_none, entries_next}
use Rattle.graph_rows.proofs.kernel.Sample.row_sum.Goals as goal

pub loop-k-init : goal.loop-k-init
loop-k-init c = (c.args.self.pattern.accepted.rows.rising c.args.i c.requires.i_in_bounds, sym (entries_none (ieee binary64) _ _ _ _))

pub loop-k-preserved : goal.loop-k-preserved
loop-k-preserved c =
    (omega arith, rw c.loop-k.invariant.1 (sym (entries_next (ieee binary64) _ _ _ _ _ c.loop-k.auto.k)))

pub returns : goal.returns
unfolding row_sum
returns c =
    let last : c.loop-k.k ≡ slice_index_or c.args.self.pattern.row_ptr.now (c.args.i + 1) 0 = omega arith in
    c.loop-k.invariant.1 ∙ ap (entries (ieee binary64) _ _ _ _) last
