-- The laws by which a segment's values follow from its start list and its end list (01, "Added by design"). Assumes nothing.
use Rattle.std.specs.Prelude.{cond, List, ℕ, ◌*◌ as ◌*ℕ◌, eqb, Float}
use Rattle.std.specs.Float.{binary64}
use Rattle.arithmetic.specs.Arithmetic.{ieee, at}
use Rattle.arithmetic.specs.Vector.{tabulate}
use Rattle.scratch.specs.Parts.{part}
open ieee binary64 use {◌+◌, ◌-◌, ◌*◌}

infixl 60 ◌+◌ ◌-◌
infixl 70 ◌*◌
-- the value of law 2, so far on its way from s to e: s + fraction·(e - s)
unfoldable pub law_value : Float → Float → Float → Float
law_value f s e = s + f * (e - s)

-- the same of two lists of m values, place by place
unfoldable pub law_values : ℕ → Float → List Float → List Float → List Float
law_values m f starts ends = tabulate (λ i. law_value f (at (ieee binary64) starts i) (at (ieee binary64) ends i)) m

-- the list that a law names: 0 the start list, 1 the end list, 2 the list that was sampled
unfoldable pub by_law : ℕ → List Float → List Float → List Float → List Float
by_law law start end sampled = cond (eqb law 0) start (cond (eqb law 1) end sampled)

-- the values of a segment whose time is so far on its way from start to end: m values of a sample, or n weights
unfoldable pub values_at : ℕ → ℕ → Float → List Float → List Float → List Float
values_at law m f start end = by_law law start end (law_values m f start end)

-- the list that segment k's law names, 0 or 1, in pools of lists of m values each: a part of the start pool or of the end pool
unfoldable pub law_list : ℕ → ℕ → ℕ → List Float → List Float → List Float
law_list law k m starts ends = cond (eqb law 0) (part (k *ℕ m) m starts) (part (k *ℕ m) m ends)
