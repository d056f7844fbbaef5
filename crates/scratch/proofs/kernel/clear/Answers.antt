-- `scratch::kernel::clear` meets its contract: the first `need` elements are filled with +0.
use Rattle.std.proofs.Common.{arith, length, take, ◌≡◌, ◌∙◌, sym, ap}
use lib.Ieee.{binary64, of_bits}
use lib.ListN.{replicate, length-take}
use Rattle.arithmetic.proofs.Tabulate.{length-tabulate}
use Rattle.scratch.proofs.Parts.{put_lent_first, tabulate-replicate}
use Rattle.scratch.proofs.kernel.clear.Goals as goal

pub returns : goal.returns
returns c =
    let zero = of_bits binary64 0 in
    let size : length (take c.args.need c.args.work.now) ≡ c.args.need = rw length-take (omega arith) in
    put_lent_first c.args.need _ c.args.work.now _ (length-tabulate _ _) (omega arith)
    (c.fill.ensures.after (λ y same. same) ∙ ap (λ n. replicate n zero) size ∙ sym (tabulate-replicate zero c.args.need))
