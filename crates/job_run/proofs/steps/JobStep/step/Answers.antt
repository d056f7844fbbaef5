-- The map selects the step.
use Rattle.std.proofs.Common.{sym, ◌∙◌}
use Rattle.job_format.specs.JobFormat.{job_of}
use Rattle.job_step.proofs.Lent.{order6-selected, weighted-selected, unweighted-selected}
use Rattle.job_run.proofs.steps.JobStep.step.Goals as goal

pub returns-then-is_order6 : goal.returns-then-is_order6
returns-then-is_order6 c =
    let step = order6-selected (job_of c.args.self.now.job) (sym c.is_order6.ensures ∙ c.if-is_order6.true) in
    rw (step.0, step.1) c.order6.ensures

pub returns-then-is_weighted : goal.returns-then-is_weighted
returns-then-is_weighted c =
    let step =
    weighted-selected (job_of c.args.self.now.job) (sym c.is_order6.ensures ∙ c.if-is_order6.false)
    (sym c.is_weighted.ensures ∙ c.if-is_weighted.true)
    in
    rw (step.0, step.1) c.weighted.ensures

pub returns : goal.returns
returns c =
    let step =
    unweighted-selected (job_of c.args.self.now.job) (sym c.is_order6.ensures ∙ c.if-is_order6.false)
    (sym c.is_weighted.ensures ∙ c.if-is_weighted.false)
    in
    rw (step.0, step.1) c.unweighted.ensures
