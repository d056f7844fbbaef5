-- `magnus_graph_step::kernel::step4` meets its contract: the signal is loaded into the work slice, the four terms are added to
-- it, the sum is stored to dst, and the first 5n elements, beyond which nothing was written, are cleared. Assumes nothing.
use Rattle.std.proofs.Common.{◌*◌, arith}
use Rattle.std.specs.Float.{binary64}
use Rattle.arithmetic.specs.Arithmetic.{ieee}
use Rattle.arithmetic.proofs.Tabulate.{length-tabulate}
use Rattle.magnus_graph_helpers.proofs.Terms.{signal-loaded, step-done}
use Rattle.magnus_graph_step.proofs.kernel.step4.Goals as goal

pub returns : goal.returns
returns c =
    let n = c.args.omega.first.pattern.n in
    let signal = signal-loaded (ieee binary64) n (5 * n) c.args.src.now c.args.work.now _ c.requires.src_len (omega arith) c.requires.room in
    step-done (ieee binary64) n (5 * n) (5 * n) _ _ 4 _ _ _ _ c.requires.dst_len c.requires.room (omega arith)
    (signal c.load.ensures) c.taylor4.ensures c.store.ensures (length-tabulate _ _)
    c.clear.ensures
