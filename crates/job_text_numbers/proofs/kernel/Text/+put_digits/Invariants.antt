-- Each call writes one digit less.
use Rattle.job_text_numbers.proofs.kernel.Text.+put_digits.Given as goal

abbrev pub decreases-put_digits : goal.decreases-put_digits
decreases-put_digits g l = l.k
