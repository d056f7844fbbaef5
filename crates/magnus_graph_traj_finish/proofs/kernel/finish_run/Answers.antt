-- `finish_run` meets its contract: where the steps were all taken the held signal is stored, and where one refused the output is not
-- touched; either way the needed part of the work slice is cleared after that. Assumes nothing.
use Rattle.std.proofs.Common.{refl, sym, ◌∙◌}
use Rattle.error.proofs.Checks.{left-when-accepted, left-when-refused}
use Rattle.magnus_graph_traj_finish.proofs.kernel.finish_run.Goals as goal

pub returns-in_default : goal.returns-in_default
returns-in_default c = (refl, sym (left-when-refused _ _ _ _ c.in_default.is), c.clear.ensures)

pub returns : goal.returns
returns c = (refl, c.store.ensures ∙ sym (left-when-accepted _ _ _ c.in-Ok.is), c.clear-2.ensures)
