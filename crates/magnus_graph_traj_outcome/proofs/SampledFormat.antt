-- The values of a sample are of the format: laws 0 and 1 give values that are lent, and law 2's are results of an addition.
-- Assumes nothing.
use mathlib.Core.Bool.{Bool, true, false, cond}
use mathlib.Core.List.{List}
use Prim.Native.Nat.{ℕ, ◌*◌, ◌≤◌}
use native.Mathlib.Decide.{dec_lt}
use native.Mathlib.Omega.{arith}
use lib.Dec.{eqb}
use lib.ListN.{length, length-take, length-drop, get_or-eq_default}
use lib.Ieee.{Float, nan, binary64}
use lib.Ieee.Fits.{add-fits, nan-fits}
use Rattle.scratch.specs.Parts.{part}
use Rattle.scratch.proofs.Parts.{get_d_part}
use Rattle.magnus_plain_sum.specs.Agree.{OfFormat}
use Rattle.magnus_plain_sum.proofs.Agree.{tabulate-of-format}
use Rattle.graph_traj_laws.specs.Laws.{law_value, law_values, by_law, values_at}
use Rattle.graph_traj_parts.specs.Trajectory.{Trajectory}
use Rattle.magnus_graph_traj_steps.specs.RunSteps.{RunStep, Course, sample_at}

-- a part of a list
part-of-format : (at n : ℕ) (w : List Float) → OfFormat binary64 w → OfFormat binary64 (part at n w)
part-of-format at n w h i = elim (dec_lt i n) [
  | yes l ↦ rw (get_d_part at n w i nan l) (h _)
  | no l ↦
      let past : length (part at n w) ≤ i = rw (length-take, length-drop) (omega arith) in
      rw (get_or-eq_default (part at n w) nan past) (nan-fits binary64)
]

-- one of two lists
one-of-format : (b : Bool) (x y : List Float) → OfFormat binary64 x → OfFormat binary64 y → OfFormat binary64 (cond b x y)
one-of-format true x y p q = p
one-of-format false x y p q = q

-- the values by a law
pub values-of-format : (law m : ℕ) (f : Float) (x y : List Float) → OfFormat binary64 x → OfFormat binary64 y
    → OfFormat binary64 (values_at law m f x y)
unfolding values_at by_law law_values law_value
values-of-format law m f x y p q =
    one-of-format (eqb law 0) _ _ p (one-of-format (eqb law 1) _ _ q (tabulate-of-format binary64 _ m (λ i. add-fits binary64 _ _)))

-- the values of a sample, whose pools are of the format
pub sample-of-format : (t : Trajectory) (course : Course) → OfFormat binary64 t.starts → OfFormat binary64 t.ends
    → (s : RunStep) (c : Float) → OfFormat binary64 (sample_at t course s c)
unfolding sample_at
sample-of-format t course p q s c =
    let m = length t.cols in
    let from = s.segment * m in
    values-of-format _ m _ _ _ (part-of-format from m t.starts p) (part-of-format from m t.ends q)
