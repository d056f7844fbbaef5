-- The call that bit 8 selects is lent the fields of the job.
use Rattle.std.proofs.Common.{sym, ◌∙◌, arith}
use Rattle.job_format.specs.JobFormat.{job_of}
use Rattle.job_step.proofs.Lent.{adjoint-sign, forward-sign, weighted-taken}
use Rattle.job_run.proofs.Rooms.{repeated-zeros, work-zeros}
use Rattle.job_run.proofs.steps.JobStep.weighted.Goals as goal

pub returns-then-self : goal.returns-then-self
returns-then-self c =
    let step = c.args.self.now in
    weighted-taken (job_of step.job) step.fields c.sample-first.ensures c.sample-second.ensures step.numbers
    c.requires
    (work-zeros 9 (repeated-zeros 576) (omega (arith, step.small.nodes)) c.nodes-n.ensures.0)
    c.read_weights.ensures.first_value
    c.read_weights.ensures.second_value
    (adjoint-sign (job_of step.job) (sym step.numbers.adjoint-is ∙ c.if-self.true))
    c.apply_exp_omega4_la_adj_kernel.ensures

pub returns-else-self : goal.returns-else-self
returns-else-self c =
    let step = c.args.self.now in
    weighted-taken (job_of step.job) step.fields c.sample-first.ensures c.sample-second.ensures step.numbers
    c.requires
    (work-zeros 9 (repeated-zeros 576) (omega (arith, step.small.nodes)) c.nodes-n.ensures.0)
    c.read_weights.ensures.first_value
    c.read_weights.ensures.second_value
    (forward-sign (job_of step.job) (sym step.numbers.adjoint-is ∙ c.if-self.false))
    c.apply_exp_omega4_la_kernel.ensures
