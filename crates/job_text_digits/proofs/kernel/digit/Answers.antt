-- It tests as the definition does.
use Rattle.std.proofs.Common.{sym}
use Rattle.job_text_digits.proofs.Digits.{digit-below-ten, digit-above}
use Rattle.job_text_digits.proofs.kernel.digit.Goals as goal

pub returns-then-d-lt10 : goal.returns-then-d-lt10
returns-then-d-lt10 c = sym (digit-below-ten _ c.if-d-lt10.true)

pub returns-else-d-lt10 : goal.returns-else-d-lt10
returns-else-d-lt10 c = sym (digit-above _ c.if-d-lt10.false)
