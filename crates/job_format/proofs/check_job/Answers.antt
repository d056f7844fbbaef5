-- A job is refused where it is malformed.
use Rattle.std.proofs.Common.{sym, ap, ◌∙◌, ℕ, min}
use Rattle.job_format.proofs.Malformed.{refuses-job, accepts-job}
use Rattle.job_format.proofs.check_job.Goals as goal

pub returns-then-is_malformed : goal.returns-then-is_malformed
returns-then-is_malformed c =
    refuses-job c.args.job.now (sym c.is_malformed.ensures ∙ c.if-is_malformed.true)
    (c.byte_count.ensures ∙ ap (λ (k : ℕ). min k 16385) c.len.ensures)

pub returns : goal.returns
returns c = accepts-job c.args.job.now (sym c.is_malformed.ensures ∙ c.if-is_malformed.false)
