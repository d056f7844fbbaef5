-- `magnus_graph_pairs::kernel::SharedOmega4::omega` meets its contract: a turn writes the next place of Ωv, from the pair of b and a at that place
-- and the sums of its row. Assumes nothing.
use Rattle.std.proofs.Common.{arith}
use Rattle.scratch.proofs.Writing.{written_none}
use Rattle.magnus_graph_pairs.proofs.Forming.{forming-next, forming-all}
use Rattle.magnus_graph_pairs.proofs.kernel.SharedOmega4.omega.Goals as goal

pub loop-i-init : goal.loop-i-init
loop-i-init g c = written_none _ _ _ _

pub loop-i-preserved : goal.loop-i-preserved
loop-i-preserved g c =
    let o = c.args.self.now in
    let p = o.pattern in
    let V = g.V.Paired in
    let sums = c.row_sums-sums.ensures in
    let pair = c.at-b.ensures in
    forming-next p.n p.row_ptr.now p.col_idx.now (V.firsts_of o.vals) (V.seconds_of o.vals) c.args.products.now _ _ _ c.loop-i.invariant
    (omega (arith, c.requires.image_len, c.loop-i.invariant.length-kept)) sums.first sums.second pair.first pair.second

pub returns : goal.returns
returns g c =
    let o = c.args.self.now in
    let p = o.pattern in
    let V = g.V.Paired in
    forming-all p.n p.row_ptr.now p.col_idx.now (V.firsts_of o.vals) (V.seconds_of o.vals) c.args.products.now _ _ _ c.loop-i.invariant
    c.requires.image_len (omega (arith, c.requires.image_len, c.loop-i.invariant.length-kept))
