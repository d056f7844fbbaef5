-- `sampled_step` meets its contract: samples or weights that are refused end the step, in the order of the checks; where all are accepted,
-- the roots are taken and the Taylor sum is formed. Assumes nothing.
use Rattle.std.proofs.Common.{refl, ◌∙◌}
use lib.Ieee.{of_bits, neg}
use Rattle.error.proofs.Checks.{handed_on}
use Rattle.varcoef_magnus_graph_traj_step.proofs.SampledStep.{samples-refused, weights-refused, sampled-taken}
use Rattle.varcoef_magnus_graph_traj_step.proofs.kernel.sampled_step.Goals as goal

pub returns-in_err-sample : goal.returns-in_err-sample
returns-in_err-sample c =
    let a = c.args in
    let p = a.lists.pattern in
    let f = a.fractions in
    let v = a.lists.values in
    let weights = a.lists.weights in
    let refused = handed_on c.from_residual.ensures in
    samples-refused p.n p.row_ptr.now p.col_idx.now a.tau f.first f.second v.start.now v.end.now weights.start.now weights.end.now
    a.work.now _ _ a.lists.values_len a.lists.weights_len c.requires
    (refused ∙ c.in_err-sample.ensures.0, c.in_err-sample.ensures.1) refused

pub returns-in_err-sample_weights : goal.returns-in_err-sample_weights
returns-in_err-sample_weights c =
    let a = c.args in
    let p = a.lists.pattern in
    let f = a.fractions in
    let v = a.lists.values in
    let weights = a.lists.weights in
    let refused = handed_on c.from_residual-in_err-sample_weights.ensures in
    weights-refused p.n p.row_ptr.now p.col_idx.now a.tau f.first f.second v.start.now v.end.now weights.start.now weights.end.now
    a.work.now _ _ a.lists.values_len a.lists.weights_len c.requires c.in_ok-sample.ensures _ _ refl
    (refused ∙ c.in_err-sample_weights.ensures.0, c.in_err-sample_weights.ensures.1) refused

pub returns : goal.returns
unfolding of_bits neg
returns c =
    let a = c.args in
    let p = a.lists.pattern in
    let f = a.fractions in
    let v = a.lists.values in
    let weights = a.lists.weights in
    sampled-taken p.n p.row_ptr.now p.col_idx.now a.tau f.first f.second v.start.now v.end.now weights.start.now weights.end.now
    a.work.now _ _ a.lists.values_len a.lists.weights_len c.requires c.in_ok-sample.ensures _ _ refl
    c.in_ok-sample_weights.ensures _ refl c.weight_roots.ensures c.sampled_taylor4.ensures
