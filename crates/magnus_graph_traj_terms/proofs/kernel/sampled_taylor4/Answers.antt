-- `magnus_graph_traj_terms::kernel::sampled_taylor4` meets its contract: the samples' values lie behind the vectors, so that the work slice is split,
-- and the Taylor sum is that of Ω with them. Assumes nothing.
use Rattle.std.proofs.Common.{◌*◌, List, Float, ◌++◌, length, take, sym, ap, subst, arith}
use Rattle.std.specs.Float.{binary64}
use Rattle.arithmetic.specs.Arithmetic.{ieee}
use Rattle.graph_rows.specs.RowProduct.{row_product64}
use Rattle.graph_pairs.specs.Pairs.{firsts, seconds}
use Rattle.magnus.specs.Coefficients.{reciprocal_factorial}
use Rattle.magnus.specs.Operators.{Operator}
use Rattle.magnus_graph_helpers.specs.Factors.{omega4_with}
use Rattle.magnus_graph_helpers.specs.Terms.{TermsAdded}
use Rattle.magnus_graph_helpers.proofs.Front.{terms-in-front}
use Rattle.magnus_graph_helpers.proofs.Terms.{terms-same}
use Rattle.magnus_graph_traj_terms.proofs.kernel.sampled_taylor4.Goals as goal

pub returns : goal.returns
returns c =
    let p = c.args.pattern in
    let n = p.n in
    let m = length p.col_idx.now in
    let A = ieee binary64 in
    let L = row_product64 n p.row_ptr.now p.col_idx.now in
    let W : List Float → Operator A n = λ values. omega4_with c.args.factors n (L (firsts A m (take (2 * m) values))) (L (seconds A m (take (2 * m) values))) in
    let parts = c.split_at_mut-vectors.ensures in
    let y = c.split_at_mut-vectors.result.1.now in
    let terms = terms-in-front A n _ (7 * n) (reciprocal_factorial binary64) 4 (W y) y parts.front_len (omega arith) c.taylor_sum.ensures in
    let whole = subst (λ w. TermsAdded A n (7 * n) (reciprocal_factorial binary64) 4 (W y) w (c.taylor_sum.new.work ++ y)) (sym parts.value) terms in
    terms-same A n (ap W parts.back) whole
