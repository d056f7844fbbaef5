-- `constant_taylor4` meets its contract: the roots lie behind the vectors, so that the work slice is split, and the Taylor sum is that of Ω with them.
-- Assumes nothing.
use Rattle.std.proofs.Common.{◌*◌, List, Float, ◌++◌, take, sym, ap, subst, arith}
use Rattle.std.specs.Float.{binary64}
use Rattle.rounding.specs.StepLength.{minus_half}
use Rattle.arithmetic.specs.Arithmetic.{ieee}
use Rattle.graph_rows.specs.Product.{product_of}
use Rattle.magnus.specs.Coefficients.{reciprocal_factorial}
use Rattle.magnus.specs.Operators.{Operator}
use Rattle.magnus_graph_helpers.specs.Terms.{TermsAdded}
use Rattle.magnus_graph_helpers.proofs.Front.{terms-in-front}
use Rattle.magnus_graph_helpers.proofs.Terms.{terms-same}
use Rattle.varcoef_magnus_graph_taylor_term.specs.WeightedOmega4.{weighted_omega4}
use Rattle.varcoef_magnus_graph_adjoint_run.proofs.kernel.constant_taylor4.Goals as goal

pub returns : goal.returns
returns c =
    let n = c.args.sample.pattern.n in
    let f = c.args.factors in
    let A = ieee binary64 in
    let L = product_of c.args.sample in
    let W : List Float → Operator A n = λ roots. weighted_omega4 A n minus_half f.s f.sign f.tau L L (take n roots) (take n roots) in
    let parts = c.split_at_mut-vectors.ensures in
    let y = c.split_at_mut-vectors.result.1.now in
    let terms = terms-in-front A n _ (6 * n) (reciprocal_factorial binary64) 4 (W y) y parts.front_len (omega arith) c.taylor_sum.ensures in
    let whole = subst (λ w. TermsAdded A n (6 * n) (reciprocal_factorial binary64) 4 (W y) w (c.taylor_sum.new.work ++ y)) (sym parts.value) terms in
    terms-same A n (ap W parts.back) whole
