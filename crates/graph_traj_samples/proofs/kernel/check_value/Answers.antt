-- `check_value` meets its contract: it refuses where its test fails. Assumes nothing.
use Rattle.std.proofs.Common.{sym, ap, ◌∙◌, not, refl}
use Rattle.error.proofs.Checks.{refuse_if-accepted, refuse_if-refused}
use Rattle.graph_traj_samples.proofs.kernel.check_value.Goals as goal

pub returns-then-is_finite : goal.returns-then-is_finite
returns-then-is_finite c = sym ((refuse_if-accepted _ _).1 (ap not (sym c.is_finite.ensures ∙ c.if-is_finite.true)))

pub returns-else-is_finite : goal.returns-else-is_finite
returns-else-is_finite c = sym ((refuse_if-refused _ _ _).1 (ap not (sym c.is_finite.ensures ∙ c.if-is_finite.false), refl))
