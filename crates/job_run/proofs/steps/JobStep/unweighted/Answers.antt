-- The call that bit 8 selects is lent the fields of the job.
use Rattle.std.proofs.Common.{sym, ◌∙◌, arith}
use Rattle.job_format.specs.JobFormat.{job_of}
use Rattle.job_step.proofs.Lent.{adjoint-sign, forward-sign, step-taken}
use Rattle.job_run.proofs.Rooms.{repeated-zeros, work-zeros}
use Rattle.job_run.proofs.steps.JobStep.unweighted.Goals as goal

pub returns-then-self : goal.returns-then-self
returns-then-self c =
    let step = c.args.self.now in
    step-taken (job_of step.job) step.fields c.sample-first.ensures c.sample-second.ensures step.numbers
    c.requires
    (work-zeros 5 (repeated-zeros 320) (omega (arith, step.small.nodes)) c.nodes.ensures.0)
    (adjoint-sign (job_of step.job) (sym step.numbers.adjoint-is ∙ c.if-self.true))
    c.apply_exp_omega4_adj_kernel.ensures

pub returns-else-self : goal.returns-else-self
returns-else-self c =
    let step = c.args.self.now in
    step-taken (job_of step.job) step.fields c.sample-first.ensures c.sample-second.ensures step.numbers
    c.requires
    (work-zeros 5 (repeated-zeros 320) (omega (arith, step.small.nodes)) c.nodes.ensures.0)
    (forward-sign (job_of step.job) (sym step.numbers.adjoint-is ∙ c.if-self.false))
    c.apply_exp_omega4_kernel.ensures
