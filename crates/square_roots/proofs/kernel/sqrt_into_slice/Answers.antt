-- `sqrt_into_slice` meets its contract: a turn lends the next block of both slices, and the block comes back as its roots.
use Rattle.std.proofs.Common.{arith, ◌≡◌, ◌+◌}
use Rattle.square_roots.proofs.Blocks.{imaged-none, imaged-lent, imaged-same, imaged-whole}
use Rattle.square_roots.proofs.kernel.sqrt_into_slice.Goals as goal

pub loop-done-init : goal.loop-done-init
loop-done-init c = imaged-none _ _ _ _ _ _

pub loop-done-preserved : goal.loop-done-preserved
loop-done-preserved c =
    let done = c.loop-done.done in
    let whole : done + c.min.result ≡ done + 256 = omega arith in
    imaged-same _ whole
    (imaged-lent _ c.requires c.loop-done.invariant (done + c.min.result) _ (omega arith) (omega arith) c.block_into_slice.ensures)

pub returns : goal.returns
returns c = imaged-whole _ c.requires c.loop-done.invariant (omega arith)

-- after the last block
pub returns-2 : goal.returns-2
returns-2 c =
    imaged-whole _ c.requires
    (imaged-lent _ c.requires c.loop-done.invariant (c.loop-done.done + c.min.result) _ (omega arith) (omega arith) c.block_into_slice.ensures)
    (omega arith)
