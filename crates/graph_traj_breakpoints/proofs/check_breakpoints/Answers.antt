-- `check_breakpoints` meets its contract: the loop stops at the first breakpoint that is not finite or not above its predecessor. Assumes nothing.
use Rattle.std.proofs.Common.{sym, ◌∙◌, arith}
use borrow.Author.Tests.{not-true, not-false}
use Rattle.graph_checks.proofs.First.{passed_none, passed-more, passed-found, refuses-first, accepts-none}
use Rattle.graph_traj_breakpoints.specs.LookupChecks.{breakpoints_fault}
use Rattle.graph_traj_breakpoints.proofs.Rising.{minus-infinity, predecessor-next, rising-is}
use Rattle.graph_traj_breakpoints.proofs.check_breakpoints.Goals as goal

pub loop-x-init : goal.loop-x-init
loop-x-init c = (passed_none, minus-infinity)

pub returns-then-not-is_finite-predecessor : goal.returns-then-not-is_finite-predecessor
unfolding breakpoints_fault
returns-then-not-is_finite-predecessor c =
    refuses-first _ _ _ _ c.loop-x-test.true
    (passed-found c.loop-x.invariant.0
    (not-false _ (sym (rising-is c.args.breakpoints.now c.loop-x.x-index) ∙ rw (← c.is_finite.ensures, ← c.loop-x.invariant.1) c.if-not-is_finite-predecessor.true)))

pub loop-x-preserved : goal.loop-x-preserved
loop-x-preserved c = (
  passed-more c.loop-x.invariant.0 c.loop-x-test.true
      (not-true _ (sym (rising-is c.args.breakpoints.now c.loop-x.x-index) ∙ rw (← c.is_finite.ensures, ← c.loop-x.invariant.1) c.if-not-is_finite-predecessor.false)),
  predecessor-next c.args.breakpoints.now c.loop-x.x-index,
)

pub returns : goal.returns
unfolding breakpoints_fault
returns c = accepts-none _ _ _ (λ j m. c.loop-x.invariant.0.none j (omega arith))
