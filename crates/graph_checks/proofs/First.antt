-- How a walk finds the first place at which a test holds, as the crates above name it. Assumes nothing.
pub use Rattle.graph_shape.proofs.First.{Passed, passed_none, passed-more, passed-found, passed-all, find_first-some, find_first-none, first_past, none-before-past, found-first}
pub use Rattle.graph_shape.proofs.First.{none-fails, refuses-first, accepts-none, refuses-found, accepts-not-found, refuse_first-accepted}
