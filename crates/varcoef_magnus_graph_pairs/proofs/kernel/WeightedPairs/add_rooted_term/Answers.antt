-- `varcoef_magnus_graph_pairs::kernel::WeightedPairs::add_rooted_term` meets its contract: a turn forms the next place of Ωv, from the pair of a and b,
-- the roots and the sums of its row, adds its multiple to the sum, whose element there is not yet written, and writes what the roots make of it.
-- Assumes nothing.
use Rattle.std.proofs.Common.{refl, ◌∙◌, arith}
use Rattle.std.specs.Float.{binary64}
use Rattle.arithmetic.specs.Arithmetic.{ieee}
use Rattle.graph_pairs.proofs.Pairs.{at-firsts, at-seconds}
use Rattle.varcoef_magnus_graph_pairs.proofs.Walks.{second-none, second_next, second-sum, second-scaled}
use Rattle.varcoef_magnus_graph_pairs.proofs.kernel.WeightedPairs.add_rooted_term.Goals as goal

pub loop-i-init : goal.loop-i-init
loop-i-init c = second-none _ _ _ _ _ _ _ _ _ _ _ _

pub loop-i-preserved : goal.loop-i-preserved
loop-i-preserved c =
    let A = ieee binary64 in
    let s = c.args.self in
    let p = s.pattern in
    let i = c.loop-i.i in
    let sums = c.row_sums-sums.ensures in
    let r = c.at-r.ensures in
    let pair = c.at-a.ensures in
    let products = c.args.products.now in
    second_next p.n p.row_ptr.now p.col_idx.now s.vals.values.now s.roots.values.now products c.args.next.now _ _ c.args.coefficient
    c.loop-i.invariant (omega arith) s.vals_len
    (r.first ∙ at-firsts A s.roots.count s.roots.values.now i (omega arith)) (r.second ∙ at-seconds A s.roots.count s.roots.values.now i (omega arith))
    sums.first sums.second (pair.first ∙ at-firsts A p.n products i (omega arith)) (pair.second ∙ at-seconds A p.n products i (omega arith)) refl

pub returns : goal.returns
returns c =
    let s = c.args.self in
    let p = s.pattern in (
      second-sum p.n p.row_ptr.now p.col_idx.now s.vals.values.now s.roots.values.now _ _ _ _ _ c.loop-i.invariant c.requires.sum_len (omega arith),
      second-scaled p.n p.row_ptr.now p.col_idx.now s.vals.values.now s.roots.values.now _ _ _ _ _ c.loop-i.invariant c.requires.scaled_len (omega arith),
    )
