-- A space, and behind it the real.
use Rattle.job_text_row.specs.Spaced.ValueText.{of-real}
use Rattle.job_text_numbers.proofs.Adding.{added}
use Rattle.job_text_row.proofs.Behind.{value-added}
use Rattle.job_text_row.proofs.kernel.put_value.Goals as goal

pub returns-clause-added : goal.returns-clause-added
returns-clause-added g c =
    value-added c.put_byte.ensures (added _ (of-real c.put_real.ensures.added.holds) c.put_real.ensures.added.is)
