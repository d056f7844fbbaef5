-- `magnus6_graph_operators::kernel::form_rop` meets its contract: the sum is formed of the vectors that C2 x left. Assumes nothing.
use Rattle.std.specs.Float.{binary64}
use Rattle.arithmetic.specs.Arithmetic.{ieee}
use Rattle.magnus.specs.Omega6.{constants6}
use Rattle.magnus6_graph_parts.proofs.Omega6Parts.{rop-formed}
use Rattle.magnus6_graph_parts.proofs.Samples.{sizes}
use Rattle.magnus6_graph_operators.proofs.kernel.form_rop.Goals as goal

pub returns : goal.returns
returns c =
    let s = c.args.samples.now in
    rop-formed (ieee binary64) _ constants6 s.tau _ _ _ (sizes s) _ c.args.work.now _ c.requires.room
    c.form_c2.ensures c.add.ensures
