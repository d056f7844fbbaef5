-- `scratch_multiples::kernel::scaled_difference` meets its contract: the closure forms scale times the difference, at each place.
use Rattle.std.proofs.Common.{rules, ◌∙◌, ap}
use lib.Ieee.{binary64, mul, sub}
use Rattle.arithmetic.specs.Arithmetic.{ieee}
use Rattle.arithmetic.proofs.Product.{scaled-difference-walk}
use Rattle.scratch.specs.Parts.{part, put}
use Rattle.scratch_multiples.proofs.kernel.scaled_difference.Goals as goal

pub returns : goal.returns
returns c =
    let a = c.args in
    let w = a.work.now in
    c.combine_within.ensures (λ x y. mul binary64 a.scale (sub binary64 x y)) (λ x y r called. search rules)
    ∙ ap (λ v. put a.target v w) (scaled-difference-walk (ieee binary64) a.n a.scale (part a.x a.n w) (part a.y a.n w))
