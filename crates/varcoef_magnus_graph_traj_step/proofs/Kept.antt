-- What the calls of a step leave of the work slice. Assumes nothing.
use mathlib.Core.Path.{◌≡◌, refl, ◌∙◌}
use mathlib.Core.List.{List}
use Prim.Native.Nat.{ℕ, ◌+◌, ◌≤◌}
use native.Mathlib.Omega.{arith}
use lib.ListN.{length}
use lib.Ieee.{Float}
use Rattle.scratch.specs.Parts.{put}
use Rattle.scratch.proofs.Parts.{length-put, drop-of-put}
use Rattle.varcoef_magnus_graph_traj_step.specs.StepTaken.{Kept}

pub kept-all : {need : ℕ} (w : List Float) → Kept need w w
kept-all w = record { length-kept = refl; rest = λ j h. refl }

pub kept_then : {need : ℕ} {w w' w'' : List Float} → Kept need w w' → Kept need w' w'' → Kept need w w''
kept_then before after =
    record { length-kept = after.length-kept ∙ before.length-kept; rest = λ j h. after.rest j h ∙ before.rest j h }

-- a vector was written before index `need`
pub kept_put : {need : ℕ} (at : ℕ) (v w w' : List Float) → at + length v ≤ need → w' ≡ put at v w → Kept need w w'
kept_put at v w w' within e = record {
  length-kept = rw e (length-put at v w);
  rest = λ j h. rw e (drop-of-put at v w j (omega arith));
}
