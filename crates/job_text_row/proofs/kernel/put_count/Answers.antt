-- A space, and behind it the count.
use Rattle.job_text_row.specs.Spaced.ValueText.{of-count}
use Rattle.job_text_numbers.proofs.Adding.{added}
use Rattle.job_text_row.proofs.Behind.{value-added}
use Rattle.job_text_row.proofs.kernel.put_count.Goals as goal

pub returns-clause-added : goal.returns-clause-added
returns-clause-added g c = value-added c.put_byte.ensures (added _ of-count c.put_decimal.ensures.added)
