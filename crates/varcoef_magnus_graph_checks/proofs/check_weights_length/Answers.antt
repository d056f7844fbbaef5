-- `varcoef_magnus_graph_checks::check_weights_length` meets its contract: it makes the test of `weights_length_fault`, and where that refuses,
-- names the larger length. The call that finds the larger one is not named, so that another one fails at what has to be shown. Assumes nothing.
use Rattle.std.proofs.Common.{◌≡◌, ℕ, Bool, true, not, ap, arith}
use Rattle.error.specs.Checks.{refuse_if}
use Rattle.error.specs.declared.Refusal.TheVariants.{Length}
use Rattle.error.specs.Answer.{Refused}
use Rattle.error.proofs.Checks.{refuses, accepts}
use Rattle.varcoef_magnus_graph_faults.specs.WeightedStepChecks.{weights_length_fault}
use Rattle.varcoef_magnus_graph_checks.proofs.check_weights_length.Goals as goal

-- the length l that is named is the larger one
named : (t : Bool) (l larger : ℕ) → l ≡ larger → t ≡ true → Refused (Length l) ≡ refuse_if t (Length larger)
named t l larger e p = rw e (refuses t (Length larger) p)

pub returns-then-first-n : goal.returns-then-first-n
unfolding weights_length_fault
returns-then-first-n c = accepts _ _ (ap not c.if-first-n.true)

pub returns-else-first-n : goal.returns-else-first-n
unfolding weights_length_fault
returns-else-first-n c = named _ _ _ (omega arith) (ap not c.if-first-n.false)
