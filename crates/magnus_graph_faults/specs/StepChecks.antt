-- The checks of the steps of order 4, forward and adjoint: rows 7 to 10 of document 01's table, each over all inputs, and the
-- order of all rows that an unweighted step can answer. Assumes nothing.
use Rattle.std.specs.Prelude.{Bool, not, ◌&&◌, ◌||◌, List, ℕ, ◌*◌ as ◌*ℕ◌, ltb, Float}
use Rattle.std.specs.Float.{binary64}
use Rattle.std.specs.Float.Ieee.{lt, le, of_bits}
use Rattle.std.specs.Float.Ieee.Scale.{finite}
use Rattle.arithmetic.specs.Arithmetic.{ieee}
use Rattle.error.specs.Checks.{refuse_if, next}
use Rattle.error.specs.Lengths.{length_fault}
use Rattle.error.specs.declared.Refusal.TheVariants.{Tau, Radius, Bound, Length}
use Rattle.error.specs.Answer.{Checked}
use Rattle.graph_checks.specs.PatternChecks.{csr_fault}
use Rattle.graph_checks.specs.declared.CsrParts.{CsrParts}
open ieee binary64 use {zero, ◌*◌}

infixl 70 ◌*◌
-- ---- the rows of the table

-- a value that rows 9 and 11 refuse: not finite or ≤ 0
unfoldable pub not_positive : Float → Bool
not_positive x = not (finite x) || le x zero

-- row 9, of one bound
unfoldable pub bound_fault : Float → Checked
bound_fault bound = refuse_if (not_positive bound) (Bound bound)

-- row 7: τ is not finite or < 0 (-0 passes)
unfoldable pub tau_fault : Float → Checked
tau_fault τ = refuse_if (not (finite τ) || lt τ zero) (Tau τ)

-- π/2, as row 8 has it
abbrev pub half_pi : Float
half_pi = of_bits binary64 0x3FF9_21FB_5444_2D18

-- row 8: the check is on and bound·τ ≥ π/2. The comparison is IEEE's, so that a NaN passes.
unfoldable pub radius_fault : Bool → Float → Float → Checked
radius_fault checked τ bound = refuse_if (checked && le half_pi (bound * τ)) (Radius τ bound)

-- row 10, of the work slice: it is shorter than the need
unfoldable pub room_fault : ℕ → ℕ → Checked
room_fault work need = refuse_if (ltb work need) (Length work)

-- ---- their order

-- a sample: a Laplacian taken at one Gauss node of a step
pub record Sample : Type 0 where
  pub nodes : ℕ
  pub starts : List ℕ
  pub cols : List ℕ
  pub vals : List Float

abbrev pub sample : ℕ → List ℕ → List ℕ → List Float → Sample
sample n starts cols vals = record { nodes = n; starts = starts; cols = cols; vals = vals }

-- the sample of a Laplacian's parts, as a caller lends them
abbrev pub sample_of : CsrParts → Sample
sample_of p = sample p.n p.row_ptr.now p.col_idx.now p.vals.now

-- one sample: 6, then 1 to 5
unfoldable pub sample_fault : Sample → Checked
sample_fault s = csr_fault s.nodes s.starts s.cols s.vals

-- both samples, the first wholly before the second
unfoldable pub samples_fault : Sample → Sample → Checked
samples_fault first second = next (sample_fault first) (sample_fault second)

-- 7, 8
unfoldable pub step_length_fault : Float → Float → Bool → Checked
step_length_fault τ bound checked = next (tau_fault τ) (radius_fault checked τ bound)

-- 10 for the second sample's n, the signal and the output
unfoldable pub lengths_fault : ℕ → ℕ → ℕ → ℕ → Checked
lengths_fault n second signal output = next (length_fault second n) (next (length_fault signal n) (length_fault output n))

-- An unweighted step: the samples, 9, 7 and 8, then 10, last of it the work slice, whose need is 5n. Signal, output and work
-- are given by their lengths.
unfoldable pub step_fault : Sample → Sample → Float → Float → Bool → ℕ → ℕ → ℕ → Checked
step_fault first second τ bound checked signal output work =
    next (samples_fault first second)
    (next (bound_fault bound)
    (next (step_length_fault τ bound checked)
    (next (lengths_fault first.nodes second.nodes signal output)
    (room_fault work (5 *ℕ first.nodes)))))
