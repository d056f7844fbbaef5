-- Each call has a tenth of the number.
use Rattle.job_text_digits.proofs.kernel.+places.Given as goal

abbrev pub decreases-places : goal.decreases-places
decreases-places l = l.n
