-- A number of the machine has at most 20 digits.
use Rattle.std.proofs.Common.{ap, arith, rules, length, length-append}
use Rattle.job_text_digits.specs.Numbers.{decimal}
use Rattle.job_text_digits.proofs.Digits.{twenty, length_digits}
use Rattle.job_text_numbers.proofs.kernel.Text.put_decimal.Goals as goal

pub put_digits-requires : goal.put_digits-requires
put_digits-requires g c = let few = twenty c.args.n c.ranges.n.fits in search rules

pub returns-clause-added : goal.returns-clause-added
unfolding decimal
returns-clause-added g c = rw (← c.places.ensures) c.put_digits.ensures

pub returns-clause-upper_bound : goal.returns-clause-upper_bound
returns-clause-upper_bound g c =
    omega
    (arith, twenty c.args.n c.ranges.n.fits, c.places.ensures, simp (length-append, length_digits) at (ap length c.put_digits.ensures))
