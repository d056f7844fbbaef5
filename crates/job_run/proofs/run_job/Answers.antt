-- A malformed job is refused, and the text of any other is that of its step.
use Rattle.std.proofs.Common.{sym, ◌∙◌}
use Rattle.error.proofs.Left.{fault-is, fault-accepted}
use Rattle.job_run.proofs.Texts.{small, malformed-text, job-text}
use Rattle.job_run.proofs.run_job.Goals as goal

pub run_step-requires : goal.run_step-requires
run_step-requires c = small c.new-job.result (fault-accepted c.check_job.ensures c.in-Ok.is)

pub returns-in-Ok : goal.returns-in-Ok
returns-in-Ok c =
    rw (sym c.new-job.ensures)
    (job-text c.new-job.result _ (fault-accepted c.check_job.ensures c.in-Ok.is) c.run_step.ensures)

pub returns-in-Err : goal.returns-in-Err
returns-in-Err c =
    rw (sym c.new-job.ensures) (malformed-text c.new-job.result _ (sym (fault-is c.check_job.ensures) ∙ c.in-Err.is) c.refused_text.ensures)
