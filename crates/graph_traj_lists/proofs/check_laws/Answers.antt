-- `check_laws` meets its contract: the first law above 2 is the one at which the loop stops. Assumes nothing.
use Rattle.std.proofs.Common.{arith}
use borrow.Author.Tests.{lt-ltb}
use Rattle.graph_checks.proofs.First.{passed-found, refuses-first, accepts-none}
use Rattle.graph_traj_lists.specs.ListChecks.{laws_fault}
use Rattle.graph_traj_lists.proofs.check_laws.Goals as goal

pub returns-then-law-gt-LAST_LAW : goal.returns-then-law-gt-LAST_LAW
unfolding laws_fault
returns-then-law-gt-LAST_LAW c =
    refuses-first _ _ _ _ c.loop-law-test.true (passed-found c.loop-law.invariant (lt-ltb _ _ c.if-law-gt-LAST_LAW.true))

pub returns : goal.returns
unfolding laws_fault
returns c = accepts-none _ _ _ (λ j m. c.loop-law.invariant.none j (omega arith))
