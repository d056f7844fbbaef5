-- What the parts of a step of order 6 ask of its work slice, and what they leave in it, for the samples of the step. Where a vector lies, the table in
-- src/kernel.rt tells. Assumes nothing.
use Rattle.std.specs.Prelude.{List, ℕ, Float, ◌+◌, ◌*◌, ◌≤◌, length}
use Rattle.std.specs.Float.{binary64}
use Rattle.arithmetic.specs.Arithmetic.{Arithmetic, ieee}
use Rattle.scratch.specs.Parts.{part}
use Rattle.graph_rows.specs.Product.{product_of}
use Rattle.magnus.specs.Operators.{Operator}
use Rattle.magnus.specs.Omega6.{Constants6, constants6}
use Rattle.magnus6_graph_parts.specs.declared.kernel.Samples6.{Samples6}

-- the 22 vectors of a step fit in the work slice
abbrev pub Room : Samples6 → List Float → Type 0
Room s w = 22 * s.outer.first.pattern.n ≤ length w

-- the vector at index x lies before the one at m·n
abbrev pub LiesBefore : Samples6 → ℕ → ℕ → Type 0
LiesBefore s x m = x + s.outer.first.pattern.n ≤ m * s.outer.first.pattern.n

-- what is formed of the vector at index x in the work slice w, which has become w': one of the records at the end of specs/Omega6Parts.antt
abbrev pub Leaves : ((A : Arithmetic Float) (n : ℕ) → Constants6 Float → Float → Operator A n → Operator A n → Operator A n
    → List Float → List Float → List Float → Type 0) → Samples6 → ℕ → List Float → List Float → Type 0
Leaves Formed s x w w' =
    let n = s.outer.first.pattern.n in
    Formed (ieee binary64) n constants6 s.tau (product_of s.outer.first) (product_of s.second) (product_of s.outer.second) (part x n w) w w'
