-- `copy_from` meets its contract: where the lengths are equal, the whole of src is stored. Assumes nothing.
use Rattle.std.proofs.Common.{◌∙◌}
use Rattle.error.proofs.Left.{left-unchanged, left-written}
use Rattle.graph_signal.proofs.Whole.{equal-lengths, within, whole}
use Rattle.graph_signal.proofs.copy_from.Goals as goal

pub returns-in_default-clause-written : goal.returns-in_default-clause-written
returns-in_default-clause-written c = left-unchanged _ _ c.check_length-length.ensures c.in_default.is

pub store-requires : goal.store-requires
store-requires c = within _ _ (equal-lengths _ _ c.check_length-length.ensures c.in-Ok.is)

pub returns-clause-written : goal.returns-clause-written
returns-clause-written c =
    let checked = c.check_length-length.ensures in
    let accepted = c.in-Ok.is in
    left-written _ _ checked accepted (c.store.ensures ∙ whole _ _ (equal-lengths _ _ checked accepted))
