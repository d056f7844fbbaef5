-- The first place at which a test holds, and the refusal that names it, as the crates above name them. Assumes nothing.
unfoldable pub use Rattle.graph_shape.specs.First.{first, find_first, refuse_first}
pub use Rattle.graph_shape.specs.First.{IsFirst, first-is, first-only}
