-- A chain of checks, one for each place in order. proofs/Each.antt shows that its answer is the first refusal among them.
-- Assumes nothing.
use Rattle.std.specs.Prelude.{ℕ, zero, suc}
use Rattle.error.specs.Checks.{next}
use Rattle.error.specs.Answer.{Checked}
use Rattle.error.specs.Answer.{Accepted}

-- check 0, check 1, .., check (n - 1)
unfoldable pub each : (ℕ → Checked) → ℕ → Checked
each check zero = Accepted
each check (suc n) = next (each check n) (check n)
