-- What is known of a work slice after a call that promises nothing of the values that it writes.
use Rattle.std.specs.Prelude.{◌≡◌, List, ℕ, length, Float}
use Rattle.scratch.specs.Parts.{put}

-- some vector of n places was written from index `at` over w, which has become w'
pub record Overwritten (n at : ℕ) (w w' : List Float) : Type 0 where
  pub vector : List Float
  pub size : length vector ≡ n
  pub written : w' ≡ put at vector w
