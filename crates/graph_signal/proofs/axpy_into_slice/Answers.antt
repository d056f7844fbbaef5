-- `axpy_into_slice` meets its contract: where the lengths are equal, the multiple of the whole of src is added. Assumes nothing.
use Rattle.std.proofs.Common.{length, ap, ◌∙◌}
use Rattle.std.specs.Float.{binary64}
use Rattle.arithmetic.specs.Arithmetic.{ieee}
use Rattle.arithmetic.specs.Product.{plus_scaled}
use Rattle.error.proofs.Left.{left-unchanged, left-written}
use Rattle.graph_signal.proofs.Whole.{equal-lengths, within, whole}
use Rattle.graph_signal.proofs.axpy_into_slice.Goals as goal

pub returns-in_default-clause-written : goal.returns-in_default-clause-written
returns-in_default-clause-written c = left-unchanged _ _ c.check_length-lengths.ensures c.in_default.is

pub add_scaled_to-requires : goal.add_scaled_to-requires
add_scaled_to-requires c = within _ _ (equal-lengths _ _ c.check_length-lengths.ensures c.in-Ok.is)

pub returns-clause-written : goal.returns-clause-written
returns-clause-written c =
    let checked = c.check_length-lengths.ensures in
    let accepted = c.in-Ok.is in
    let signal = c.args.signal.now in
    left-written _ _ checked accepted
    (c.add_scaled_to.ensures
    ∙ ap (plus_scaled (ieee binary64) (length signal) signal c.args.alpha) (whole _ _ (equal-lengths _ _ checked accepted)))
