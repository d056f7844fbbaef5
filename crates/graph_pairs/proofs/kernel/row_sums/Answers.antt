-- `graph_pairs::kernel::row_sums` meets its contract. A turn adds two entries; a last one may be left. Assumes nothing.
use Rattle.std.proofs.Common.{◌≡◌, ◌+◌, slice_index_or, sym, ap, ◌∙◌, arith}
use Rattle.std.specs.Float.{binary64}
use Rattle.arithmetic.specs.Arithmetic.{ieee}
use Rattle.arithmetic.specs.Product.{entries, row_sum}
use Rattle.arithmetic.proofs.Product.{entries_none}
use Rattle.graph_pairs.proofs.Pairs.{with-entry, with-two-entries}
use Rattle.graph_pairs.proofs.kernel.row_sums.Goals as goal

pub loop-k-init : goal.loop-k-init
loop-k-init g c =
    let rising = c.args.pattern.accepted.rows.rising c.args.i c.requires.i_in_bounds in
    (omega arith, rising, sym (entries_none (ieee binary64) _ _ _ _), sym (entries_none (ieee binary64) _ _ _ _))

pub loop-k-preserved : goal.loop-k-preserved
loop-k-preserved g c =
    let loop = c.loop-k.invariant in
    let one = c.with_entry-next.ensures in
    let two = c.with_entry-sums.ensures in (
      omega arith,
      omega arith,
      with-two-entries (ieee binary64) _ _ _ _ _ loop.0 loop.2 one.first two.first,
      with-two-entries (ieee binary64) _ _ _ _ _ loop.0 loop.3 one.second two.second,
    )

pub returns-then-k-end-clause-first : goal.returns-then-k-end-clause-first
unfolding row_sum
returns-then-k-end-clause-first g c =
    let loop = c.loop-k.invariant in
    let last : c.loop-k.k + 1 ≡ slice_index_or c.args.pattern.row_ptr.now (c.args.i + 1) 0 = omega arith in
    with-entry (ieee binary64) _ _ _ _ _ loop.0 loop.2 c.with_entry-sums-then-k-end.ensures.first ∙ ap (entries (ieee binary64) _ _ _ _) last

pub returns-then-k-end-clause-second : goal.returns-then-k-end-clause-second
unfolding row_sum
returns-then-k-end-clause-second g c =
    let loop = c.loop-k.invariant in
    let last : c.loop-k.k + 1 ≡ slice_index_or c.args.pattern.row_ptr.now (c.args.i + 1) 0 = omega arith in
    with-entry (ieee binary64) _ _ _ _ _ loop.0 loop.3 c.with_entry-sums-then-k-end.ensures.second ∙ ap (entries (ieee binary64) _ _ _ _) last

pub returns-else-k-end-clause-first : goal.returns-else-k-end-clause-first
unfolding row_sum
returns-else-k-end-clause-first g c =
    let last : c.loop-k.k ≡ slice_index_or c.args.pattern.row_ptr.now (c.args.i + 1) 0 = omega arith in
    c.loop-k.invariant.2 ∙ ap (entries (ieee binary64) _ _ _ _) last

pub returns-else-k-end-clause-second : goal.returns-else-k-end-clause-second
unfolding row_sum
returns-else-k-end-clause-second g c =
    let last : c.loop-k.k ≡ slice_index_or c.args.pattern.row_ptr.now (c.args.i + 1) 0 = omega arith in
    c.loop-k.invariant.3 ∙ ap (entries (ieee binary64) _ _ _ _) last
