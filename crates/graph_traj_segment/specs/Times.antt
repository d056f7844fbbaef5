-- The times of a run (01, parts 8 and 10): the step length of a segment, where a step starts, where its samples lie and how far on the
-- segment's way, each in the order of rounded operations that 01 gives. Assumes nothing.
use Rattle.std.specs.Prelude.{ℕ, ◌-◌ as ◌-ℕ◌, pos, Float}
use Rattle.std.specs.Float.Ieee
use Rattle.std.specs.Float.{binary64}
use Rattle.std.specs.Float.Ieee.{of_int, of_bits}
use Rattle.arithmetic.specs.Arithmetic.{ieee}
open ieee binary64 use {◌+◌, ◌-◌, ◌*◌}

infixl 60 ◌+◌ ◌-◌
infixl 70 ◌*◌ ◌÷◌
-- a quotient, rounded
abbrev pub ◌÷◌ : Float → Float → Float
◌÷◌ = Ieee.div binary64

-- a count as a real; the counts of a run are small enough that none is rounded (`count-exact`, in this crate's proofs/CountsExact.antt)
abbrev pub real : ℕ → Float
real count = of_int binary64 (pos count)

-- the Gauss nodes of a step, about (3 - √3)/6 and (3 + √3)/6, with the bits of the literals in magnus_graph.rs; all runs use these
abbrev pub c1 : Float
c1 = of_bits binary64 0x3FCB_0CB1_74DF_99C8

abbrev pub c2 : Float
c2 = of_bits binary64 0x3FE9_3CD3_A2C8_198E

-- τ of a segment: (end - start)/steps
unfoldable pub segment_tau : Float → Float → ℕ → Float
segment_tau start end steps = (end - start) ÷ real steps

-- step j of a segment starts at start + j·τ
unfoldable pub step_start : Float → Float → ℕ → Float
step_start start τ j = start + real j * τ

-- step k of an adjoint run of N steps starts at (N - 1 - k)·τ
unfoldable pub adjoint_step_start : Float → ℕ → ℕ → Float
adjoint_step_start τ N k = real (N -ℕ 1 -ℕ k) * τ

-- the sample at the node c of a step that starts at t lies at t + c·τ
unfoldable pub sample_time : Float → Float → Float → Float
sample_time t c τ = t + c * τ

-- how far t is on its way from a to b: (t - a)/(b - a), carried past both ends
unfoldable pub fraction : Float → Float → Float → Float
fraction t a b = (t - a) ÷ (b - a)
