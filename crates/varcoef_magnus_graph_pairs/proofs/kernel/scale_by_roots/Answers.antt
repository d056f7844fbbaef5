-- `varcoef_magnus_graph_pairs::kernel::scale_by_roots` meets its contract: a turn writes the next pair, from the signal's element and the roots
-- of its place. Assumes nothing.
use Rattle.std.proofs.Common.{refl, ◌∙◌, arith}
use Rattle.std.specs.Float.{binary64}
use Rattle.arithmetic.specs.Arithmetic.{ieee, at}
use Rattle.scratch.proofs.Writing.{written_none}
use Rattle.graph_pairs.proofs.Pairs.{at-firsts, at-seconds, pairs-written}
use Rattle.varcoef_magnus_graph_pairs.proofs.Walks.{rooted_next}
use Rattle.varcoef_magnus_graph_pairs.proofs.kernel.scale_by_roots.Goals as goal

pub loop-i-init : goal.loop-i-init
loop-i-init c = written_none _ _ _ _

pub loop-i-preserved : goal.loop-i-preserved
loop-i-preserved c =
    let A = ieee binary64 in
    let roots = c.args.roots in
    let i = c.loop-i.i in
    let r = c.at-r.ensures in
    let v = at A c.args.v.now in
    rooted_next roots.values.now v v c.loop-i.invariant (omega arith) (r.first ∙ at-firsts A roots.count roots.values.now i (omega arith))
    (r.second ∙ at-seconds A roots.count roots.values.now i (omega arith)) refl refl

pub returns : goal.returns
returns c = pairs-written _ _ c.requires.scaled_len c.loop-i.invariant (omega arith)
