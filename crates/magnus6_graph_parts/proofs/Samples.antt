-- What the samples of a step of order 6 give to its proofs: the lengths of the products with them, and that the second one, too, has the first one's
-- number of nodes. Assumes nothing.
use Rattle.std.proofs.Common.{◌≡◌, List, ℕ, Float, ◌∙◌}
use Rattle.arithmetic.proofs.Tabulate.{length-tabulate}
use Rattle.scratch.specs.Parts.{part, put}
use Rattle.graph_rows.specs.Product.{product_of}
use Rattle.graph_scratch.proofs.WorkSlice.{image-of}
use Rattle.magnus6_graph_parts.specs.declared.kernel.Samples6.{Samples6}
use Rattle.magnus6_graph_parts.proofs.Omega6Parts.{Sizes}

module _ (s : Samples6) where
  pub sizes : Sizes s.outer.first.pattern.n (product_of s.outer.first) (product_of s.second) (product_of s.outer.second)
  sizes = record {
    first = λ x. length-tabulate _ _;
    second = λ x. length-tabulate _ _ ∙ s.second_nodes;
    third = λ x. length-tabulate _ _ ∙ s.outer.same_nodes;
  }

  -- a product with the second sample was written
  pub second-image : (source target : ℕ) (w : List Float) {w' : List Float}
      → w' ≡ put target (product_of s.second (part source s.second.pattern.n w)) w
      → w' ≡ put target (product_of s.second (part source s.outer.first.pattern.n w)) w
  second-image source target w e = image-of source target w (product_of s.second) s.second_nodes e
