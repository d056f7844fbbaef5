-- `error::check_length` meets its contract: it makes the test of `length_fault`.
use Rattle.error.specs.Lengths.{length_fault}
use Rattle.error.proofs.Checks.{accepts-equal, refuses-unequal}
use Rattle.error.proofs.Left.{answers}
use Rattle.error.proofs.check_length.Goals as goal

pub returns-then-length-n : goal.returns-then-length-n
unfolding length_fault
returns-then-length-n c = answers (accepts-equal _ _ _ c.if-length-n.true)

pub returns-else-length-n : goal.returns-else-length-n
unfolding length_fault
returns-else-length-n c = answers (refuses-unequal _ _ _ c.if-length-n.false)
