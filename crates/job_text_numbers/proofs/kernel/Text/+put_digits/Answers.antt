-- Behind the digits of n / base stands that of n % base. No digits are no bytes. A call on a text of any room asks first that its size is below
-- 2 ^ 63, as this call asked.
use Rattle.std.proofs.Common.{refl, length, ap, arith, append_assoc, append-nil, length-append}
use Rattle.job_text_digits.proofs.Digits.{digits-none, digits-next, length_digits}
use Rattle.job_text_numbers.proofs.kernel.Text.+put_digits.Goals as goal

pub returns-then-k-eq0 : goal.returns-then-k-eq0
returns-then-k-eq0 g t c = rw (c.if-k-eq0.true, digits-none, append-nil) refl

pub put_byte-requires : goal.put_byte-requires
put_byte-requires g t c = (omega arith, omega (arith, simp (length-append, length_digits) at (ap length c.put_digits.ensures)))

pub returns : goal.returns
returns g t c =
    rw (digits-next c.args.base c.args.k c.args.n c.if-k-eq0.false, ← append_assoc, ← c.digit.ensures, ← c.put_digits.ensures)
    c.put_byte.ensures
