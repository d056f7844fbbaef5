-- `sampled_taylor4` meets its contract: the work slice is split into the vectors that the terms write, and the roots and the values behind them. The
-- scaled pairs start as what the roots make of the held signal, and each call adds the next term, whose coefficient is one division. Assumes nothing.
use Rattle.std.proofs.Common.{◌*◌, List, Float, ◌++◌, length, take, ap, ◌∙◌, arith}
use Rattle.std.specs.Float.{binary64}
use Rattle.magnus.specs.Coefficients.{reciprocal_factorial}
use Rattle.varcoef_magnus_graph_traj_step.proofs.Terms.{omega_of}
use Rattle.varcoef_magnus_graph_traj_step.proofs.Turns.{four-terms}
use Rattle.varcoef_magnus_graph_traj_step.proofs.Split.{kept-lists, joined}
use Rattle.varcoef_magnus_graph_traj_step.proofs.kernel.sampled_taylor4.Goals as goal

pub returns : goal.returns
returns c =
    let p = c.args.pattern in
    let f = c.args.factors in
    let n = p.n in
    let m = length p.col_idx.now in
    let w = c.args.work.now in
    let W = omega_of n p.row_ptr.now p.col_idx.now f.s f.sign f.tau in
    let sum = c.split_at_mut-sum in
    let gap = c.split_at_mut-from_2n in
    let products = c.split_at_mut-products in
    let scaled = c.split_at_mut-scaled in
    let next = c.split_at_mut-next in
    let roots = c.split_at_mut-roots in
    let r = take (2 * n) roots.result.0.now in
    let x = take (2 * m) roots.result.1.now in
    let last = c.sampled_term-4.new in
    let lists = kept-lists n m w _ _ _ _ _ _ _ sum.ensures.back gap.ensures.back products.ensures.back scaled.ensures.back next.ensures.back
    roots.ensures.front roots.ensures.back in
    let whole = sum.ensures.value ∙ ap (λ (y : List Float). sum.result.0.now ++ y) (gap.ensures.value
    ∙ ap (λ (y : List Float). gap.result.0.now ++ y) (products.ensures.value
    ∙ ap (λ (y : List Float). products.result.0.now ++ y) (scaled.ensures.value
    ∙ ap (λ (y : List Float). scaled.result.0.now ++ y) (next.ensures.value
    ∙ ap (λ (y : List Float). next.result.0.now ++ y) roots.ensures.value)))) in
    joined n (reciprocal_factorial binary64) W sum.result.0.now gap.result.0.now products.result.0.now scaled.result.0.now next.result.0.now
    (roots.result.0.now ++ roots.result.1.now) last.sum last.products last.scaled last.next lists
    (sum.ensures.front_len, gap.ensures.front_len, products.ensures.front_len, scaled.ensures.front_len, next.ensures.front_len)
    (omega arith, omega arith, omega arith, omega arith) whole
    (four-terms n (reciprocal_factorial binary64) r (W r x) sum.result.0.now (
      c.reciprocal_factorial-first.ensures,
      c.reciprocal_factorial-second.ensures,
      c.reciprocal_factorial-third.ensures,
      c.reciprocal_factorial-fourth.ensures,
    )
    c.scale_by_roots.ensures c.sampled_term.ensures c.sampled_term-2.ensures c.sampled_term-3.ensures c.sampled_term-4.ensures)
