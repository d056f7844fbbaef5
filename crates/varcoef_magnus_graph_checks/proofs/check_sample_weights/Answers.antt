-- `varcoef_magnus_graph_checks::check_sample_weights` meets its contract: where the quick walk finds a fault, the next one goes to the first
-- weight that is not positive. Assumes nothing.
use Rattle.std.proofs.Common.{not, refl, sym, arith}
use Rattle.std.specs.Float.{nan}
use mathlib.Core.Bool.{not-not}
use borrow.Author.Tests.{not-false}
use Rattle.graph_checks.proofs.First.{passed-found, none-fails, refuses-first, accepts-none}
use Rattle.magnus_graph_faults.specs.StepChecks.{not_positive}
use Rattle.varcoef_magnus_graph_faults.specs.WeightedStepChecks.{not_positive_at, sample_weights_fault}
use Rattle.varcoef_magnus_graph_checks.proofs.check_sample_weights.Goals as goal

pub returns-then-all_positive : goal.returns-then-all_positive
unfolding sample_weights_fault
returns-then-all_positive c =
    accepts-none _ _ _
    (none-fails (λ w. not (not_positive w)) _ nan (not_positive_at c.args.weights.now) (λ k. sym (not-not _)) _ c.if-all_positive.ensures refl)

pub returns-then-not-is_positive : goal.returns-then-not-is_positive
unfolding sample_weights_fault
returns-then-not-is_positive c =
    refuses-first _ _ _ _ c.loop-w-test.true (passed-found c.loop-w.invariant (not-false _ (sym c.if-not-is_positive.ensures)))

pub returns : goal.returns
unfolding sample_weights_fault
returns c = accepts-none _ _ _ (λ j l. c.loop-w.invariant.none j (omega arith))
