-- The checks of the counts of a trajectory: rows 13 and 14 of document 01's table, over all inputs, and their order. Assumes nothing.
use Rattle.std.specs.Prelude.{◌||◌, ℕ, ◌+◌, ◌*◌, eqb, ltb}
use Rattle.error.specs.Checks.{refuse_if, refuse_unequal, next}
use Rattle.error.specs.declared.Refusal.TheVariants.{SegmentCount, PoolCount}
use Rattle.error.specs.Answer.{Checked}

-- row 13: the segments are 0 or over 65,535
unfoldable pub segment_count_fault : ℕ → Checked
segment_count_fault segments = refuse_if (eqb segments 0 || ltb 65535 segments) (SegmentCount segments)

-- row 14, of one list: it is not as long as is wanted
unfoldable pub pool_count_fault : ℕ → ℕ → Checked
pool_count_fault count wanted = refuse_unequal count wanted (PoolCount count)

-- 14 for the breakpoints, the start pool, the end pool and the laws, given by their lengths, of so many segments and columns
unfoldable pub counts_fault : ℕ → ℕ → ℕ → ℕ → ℕ → ℕ → Checked
counts_fault segments columns breakpoints starts ends laws =
    next (pool_count_fault breakpoints (segments + 1))
    (next (pool_count_fault starts (segments * columns))
    (next (pool_count_fault ends (segments * columns))
    (pool_count_fault laws segments)))
