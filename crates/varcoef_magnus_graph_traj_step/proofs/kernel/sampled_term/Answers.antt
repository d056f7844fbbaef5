-- `sampled_term` meets its contract: the first walk forms both weighted products of v from what the roots made of it, and the second Ωv,
-- its multiple in the sum, and what the roots make of it. Assumes nothing.
use Rattle.varcoef_magnus_graph_traj_step.proofs.Terms.{sampled-term-added}
use Rattle.varcoef_magnus_graph_traj_step.proofs.kernel.sampled_term.Goals as goal

pub returns : goal.returns
returns c =
    let s = c.args.samples in
    let p = s.pattern in
    let f = c.args.factors in
    let walked = c.rooted_products.ensures in
    sampled-term-added p.n p.row_ptr.now p.col_idx.now s.roots.values.now s.vals.values.now f.s f.sign f.tau c.args.coefficient
    c.args.scaled.now _ _ walked.products walked.next
    (rw (← c.scale-scale.ensures, ← c.comm_scale-comm_scale.ensures) c.add_rooted_term.ensures)
