-- `roots_in` meets its contract: the work slice is split between the two vectors, and joined again when the roots are written.
use Rattle.std.proofs.Common.{arith, map, ◌≡◌, ◌∙◌, ◌+◌, ◌-◌, refl, ap, take}
use lib.Ieee.{binary64}
use Rattle.ieee_square_root.specs.SquareRoot.{square_root}
use Rattle.scratch.specs.Parts.{part}
use Rattle.scratch.proofs.Halves.{part-of-first, joined-after, joined-before}
use Rattle.square_roots.proofs.Blocks.{images}
use Rattle.square_roots.proofs.kernel.roots_in.Goals as goal

pub returns-then-source-target : goal.returns-then-source-target
returns-then-source-target c =
    let a = c.args in
    let w = a.work.now in
    let halves = c.split_at_mut-front.ensures in
    let roots = map (square_root binary64) in
    let count : a.source + a.count - a.source ≡ a.count = omega arith in
    joined-after w a.target a.target halves.front halves.back (images (square_root binary64) a.source a.count w (omega arith))
    (c.sqrt_into_slice.ensures
    ∙ ap (λ k. roots (part a.source k c.split_at_mut-front.result.0.now)) count
    ∙ ap (λ u. roots (part a.source a.count u)) halves.front
    ∙ ap roots (part-of-first a.source a.count a.target w (omega arith)))
    refl (omega arith)

pub returns-else-source-target : goal.returns-else-source-target
returns-else-source-target c =
    let a = c.args in
    let w = a.work.now in
    let halves = c.split_at_mut-front-else-source-target.ensures in
    let roots = map (square_root binary64) in
    joined-before w a.target a.source halves.front halves.back (images (square_root binary64) a.source a.count w (omega arith))
    (c.sqrt_into_slice-else-source-target.ensures ∙ ap (λ u. roots (take a.count u)) halves.back)
    (omega arith) (omega arith)
