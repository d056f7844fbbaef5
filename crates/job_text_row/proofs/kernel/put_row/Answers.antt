-- The number, and behind it each value.
use Rattle.job_text_row.proofs.Behind.{spaced-behind}
use Rattle.job_text_row.proofs.kernel.put_row.Goals as goal

pub returns-in-Count-clause-added : goal.returns-in-Count-clause-added
returns-in-Count-clause-added g c =
    rw c.in-Count.is (spaced-behind c.put_count.ensures.added c.put_count-in-Count.ensures.added)

pub returns-in-Real-clause-added : goal.returns-in-Real-clause-added
returns-in-Real-clause-added g c =
    rw c.in-Real.is (spaced-behind c.put_count-in-Real.ensures.added c.put_value.ensures.added)

pub returns-in-Reals-clause-added : goal.returns-in-Reals-clause-added
returns-in-Reals-clause-added g c =
    rw c.in-Reals.is
    (spaced-behind c.put_count-in-Reals.ensures.added
    (spaced-behind c.put_value-in-Reals.ensures.added c.put_value-in-Reals-2.ensures.added))
