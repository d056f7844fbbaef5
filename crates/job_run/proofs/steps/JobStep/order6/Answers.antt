-- The call is lent the fields of the job.
use Rattle.std.proofs.Common.{arith}
use Rattle.job_format.specs.JobFormat.{job_of}
use Rattle.job_step.proofs.Lent.{step6-taken}
use Rattle.job_run.proofs.Rooms.{repeated-zeros, work-zeros}
use Rattle.job_run.proofs.steps.JobStep.order6.Goals as goal

pub returns : goal.returns
returns c =
    let step = c.args.self.now in
    step6-taken (job_of step.job) step.fields c.sample-first.ensures c.sample-second.ensures step.numbers
    c.requires
    (work-zeros 22 (repeated-zeros 1408) (omega (arith, step.small.nodes)) c.nodes.ensures.0)
    c.sample-third.ensures
    c.read_values.ensures
    c.apply_exp_omega6_kernel.ensures
