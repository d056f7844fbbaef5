-- `graph_two_products::kernel::two_products_in` meets its contract: where the patterns are the same, the second sample's values belong to the first
-- one's pattern; else one product is written after the other, apart from the source. Assumes nothing.
use Rattle.std.proofs.Common.{sym}
use Rattle.arithmetic.proofs.Tabulate.{length-tabulate}
use Rattle.graph_rows.specs.Product.{product_of}
use Rattle.graph_scratch.proofs.WorkSlice.{image-of}
use Rattle.graph_two_products.proofs.Turns.{by-its-own-pattern, one-after-the-other}
use Rattle.graph_two_products.proofs.kernel.two_products_in.Goals as goal

pub returns-then-shared : goal.returns-then-shared
returns-then-shared c =
    let s = c.args.samples in
    by-its-own-pattern c.args.target_second _ _ _ (sym s.same_nodes) (s.shared_pattern.same c.if-shared.true) c.shared_products_in.ensures

pub returns-else-shared : goal.returns-else-shared
returns-else-shared c =
    let a = c.args in
    let s = a.samples in
    let second = image-of a.source a.target_second c.product_in.new.work (product_of s.second) s.same_nodes c.product_in-else-shared.ensures in
    one-after-the-other s.first.pattern.n a.source a.target_first a.target_second (product_of s.second) _ a.work.now
    (length-tabulate _ _) c.requires.apart_first c.product_in.ensures second
