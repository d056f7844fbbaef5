-- `graph_scratch::kernel::product_in` meets its contract: the work slice is split between the two vectors, and joined again when the product is
-- written. Assumes nothing.
use Rattle.std.proofs.Common.{arith, ◌≡◌, ◌∙◌, ◌+◌, ◌-◌, refl, ap, take}
use Rattle.arithmetic.proofs.Tabulate.{length-tabulate}
use Rattle.scratch.specs.Parts.{part}
use Rattle.scratch.proofs.Halves.{part-of-first, joined-after, joined-before}
use Rattle.graph_rows.specs.Product.{product_of}
use Rattle.graph_scratch.proofs.kernel.product_in.Goals as goal

pub returns-then-source-target : goal.returns-then-source-target
returns-then-source-target c =
    let a = c.args in
    let w = a.work.now in
    let n = a.sample.pattern.n in
    let halves = c.split_at_mut-front.ensures in
    let count : a.source + n - a.source ≡ n = omega arith in
    joined-after w a.target a.target halves.front halves.back (length-tabulate _ n)
    (c.product.ensures
    ∙ ap (λ k. product_of a.sample (part a.source k c.split_at_mut-front.result.0.now)) count
    ∙ ap (λ u. product_of a.sample (part a.source n u)) halves.front
    ∙ ap (product_of a.sample) (part-of-first a.source n a.target w (omega arith)))
    refl (omega arith)

pub returns-else-source-target : goal.returns-else-source-target
returns-else-source-target c =
    let a = c.args in
    let w = a.work.now in
    let n = a.sample.pattern.n in
    let halves = c.split_at_mut-front-else-source-target.ensures in
    joined-before w a.target a.source halves.front halves.back (length-tabulate _ n)
    (c.product-else-source-target.ensures ∙ ap (λ u. product_of a.sample (take n u)) halves.back)
    (omega arith) (omega arith)
