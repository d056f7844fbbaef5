-- The constant of the unweighted steps of order 4 (01, part 6). Assumes nothing.
use Rattle.std.specs.Prelude.{Float}
use Rattle.std.specs.Float.{binary64}
use Rattle.std.specs.Float.Ieee.{of_bits}

-- the literal for √3/12 in magnus_graph.rs
abbrev pub sqrt3_over12 : Float
sqrt3_over12 = of_bits binary64 0x3FC2_79A7_4590_331C
