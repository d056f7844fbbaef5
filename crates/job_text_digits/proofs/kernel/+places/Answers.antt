-- Below 10 there is one digit, else one more than n / 10 has, which is at most 20.
use Rattle.std.proofs.Common.{sym, ap, ◌∙◌, ℕ, ◌+◌, ◌/◌, ◌<◌, ◌^◌, arith}
use Rattle.job_text_digits.proofs.Digits.{places-one, places-more, twenty}
use Rattle.job_text_digits.proofs.kernel.+places.Goals as goal

pub overflow_add-result : goal.overflow_add-result
overflow_add-result t c =
    let fits : c.args.n / 10 < 2 ^ 64 = omega arith in
    omega (arith, twenty (c.args.n / 10) fits, c.places.ensures)

pub returns-then-n-lt10 : goal.returns-then-n-lt10
returns-then-n-lt10 t c = sym (places-one _ (omega arith))

pub returns-else-n-lt10 : goal.returns-else-n-lt10
returns-else-n-lt10 t c = ap (λ (k : ℕ). k + 1) c.places.ensures ∙ sym (places-more _ (omega arith))
