-- `sampled_step` meets its contract: samples that row 20 refuses end the step; where both are accepted, the Taylor sum is formed with the
-- values that lie in the work slice. Assumes nothing.
use Rattle.std.proofs.Common.{refl, ◌∙◌}
use Rattle.error.proofs.Checks.{handed_on}
use Rattle.magnus_graph_traj_step.proofs.RunStep.{sampled-refused, sampled-taken}
use Rattle.magnus_graph_traj_step.proofs.kernel.sampled_step.Goals as goal

pub returns-in_err-sample : goal.returns-in_err-sample
returns-in_err-sample c =
    let args = c.args in
    let p = args.pattern in
    let l = args.lists in
    let refused = handed_on c.from_residual.ensures in
    sampled-refused p.n p.row_ptr.now p.col_idx.now l.start.now l.end.now args.factors.tau args.fractions.first args.fractions.second
    args.factors.sign l.same c.requires.lists_len args.work.now _ c.requires.room
    (refused ∙ c.in_err-sample.ensures.0, c.in_err-sample.ensures.1) refused

pub returns : goal.returns
returns c =
    let args = c.args in
    let p = args.pattern in
    let l = args.lists in
    sampled-taken p.n p.row_ptr.now p.col_idx.now l.start.now l.end.now args.factors.tau args.fractions.first args.fractions.second
    args.factors.sign l.same c.requires.lists_len args.work.now _ c.requires.room c.in_ok-sample.ensures refl
    (rw c.requires.literal at c.sampled_taylor4.ensures)
