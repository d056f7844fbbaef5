-- `scratch_scaled_sums::kernel::add_scaled` meets its contract: the closure adds a multiple, at each place.
use Rattle.std.proofs.Common.{rules, ◌∙◌, ap}
use lib.Ieee.{binary64, add, mul}
use Rattle.arithmetic.specs.Arithmetic.{ieee}
use Rattle.arithmetic.proofs.Product.{plus-scaled-walk}
use Rattle.scratch.specs.Parts.{part, put}
use Rattle.scratch_scaled_sums.proofs.kernel.add_scaled.Goals as goal

pub returns : goal.returns
returns c =
    let a = c.args in
    let w = a.work.now in
    c.combine_within.ensures (λ x y. add binary64 x (mul binary64 a.scale y)) (λ x y r called. search rules)
    ∙ ap (λ v. put a.target v w) (plus-scaled-walk (ieee binary64) a.n (part a.target a.n w) a.scale (part a.source a.n w))
