-- The 16 digits are those of a pattern that has the value x.
use Rattle.std.proofs.Common.{refl, ap, arith, length, length-append}
use Rattle.job_text_digits.specs.Numbers.{digits, hexadecimal16}
use Rattle.job_text_digits.proofs.Digits.{length_digits}
use Rattle.job_text_numbers.proofs.kernel.Text.put_real.Goals as goal

pub returns-clause-added : goal.returns-clause-added
unfolding hexadecimal16
returns-clause-added g c = record {
  text = digits 16 16 c.pattern.result;
  holds = record { bits = c.pattern.result; fits = c.pattern.type_inv; value = c.pattern.ensures; is = refl };
  is = c.put_digits.ensures;
}

pub returns-clause-length_value : goal.returns-clause-length_value
returns-clause-length_value g c =
    omega (arith, simp (length-append, length_digits) at (ap length c.put_digits.ensures))
