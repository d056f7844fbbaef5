-- `magnus_graph_checks::check_room` meets its contract: it makes the test of `room_fault`. Assumes nothing.
use borrow.Author.Tests.{lt-ltb, le-ltb}
use Rattle.error.proofs.Checks.{refuses, accepts}
use Rattle.magnus_graph_faults.specs.StepChecks.{room_fault}
use Rattle.magnus_graph_checks.proofs.check_room.Goals as goal

pub returns-then-work-need : goal.returns-then-work-need
unfolding room_fault
returns-then-work-need c = refuses _ _ (lt-ltb _ _ c.if-work-need.true)

pub returns-else-work-need : goal.returns-else-work-need
unfolding room_fault
returns-else-work-need c = accepts _ _ (le-ltb _ _ c.if-work-need.false)
