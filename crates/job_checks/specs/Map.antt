-- The map of a job (01, "The job program"). Assumes nothing.
use Rattle.std.specs.Prelude.{Bool, not, ◌&&◌, ◌||◌, ℕ, ◌/◌, ◌%◌, ◌^◌, eqb, ltb}

-- whether a bit of the map stands
unfoldable pub stands : ℕ → ℕ → Bool
stands map bit = eqb (map / 2 ^ bit % 2) 1

-- the bits that no job lacks
unfoldable pub required : ℕ → Bool
required map = stands map 0 && (stands map 1 && (stands map 2 && (stands map 4 && stands map 7)))

-- a map that is allowed: it has no bit above 8, it lacks none that is required, and bit 3 stands neither with 6 nor with 8
unfoldable pub allowed : ℕ → Bool
allowed map = ltb map 512 && (required map && not (stands map 3 && (stands map 6 || stands map 8)))
