-- `check_weight` meets its contract: it refuses where its test fails. Assumes nothing.
use Rattle.std.proofs.Common.{sym, ◌∙◌, refl}
use borrow.Author.Tests.{not-true, not-false}
use Rattle.error.proofs.Checks.{refuse_if-accepted, refuse_if-refused}
use Rattle.graph_traj_weights.proofs.kernel.check_weight.Goals as goal

pub returns-then-is_positive : goal.returns-then-is_positive
returns-then-is_positive c = sym ((refuse_if-accepted _ _).1 (not-true _ (sym c.is_positive.ensures ∙ c.if-is_positive.true)))

pub returns-else-is_positive : goal.returns-else-is_positive
returns-else-is_positive c = sym ((refuse_if-refused _ _ _).1 (not-false _ (sym c.is_positive.ensures ∙ c.if-is_positive.false), refl))
