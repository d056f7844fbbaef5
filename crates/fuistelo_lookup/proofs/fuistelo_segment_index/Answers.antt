-- `fuistelo_segment_index` meets its contract: the struct carries the segment that the call gave, or is that of its refusal. Assumes nothing.
use Rattle.std.proofs.Common.{◌≡◌, refl, ℕ, Result, Ok, Err}
use Rattle.error.specs.declared.Refusal.{Refusal}
use Rattle.error.specs.Refusals.{count}
use Rattle.graph_traj.specs.LookupAnswer.{check_of}
use Rattle.answer.proofs.Struct.{given-told, refusal-told}
use Rattle.fuistelo_lookup.proofs.fuistelo_segment_index.Goals as goal

one-segment : {x y : ℕ} → ◌≡◌ {A = Result ℕ Refusal} (Ok x) (Ok y) → x ≡ y
one-segment p = cc

pub returns-in-Ok : goal.returns-in-Ok
unfolding check_of
returns-in-Ok c =
    given-told check_of Ok count refl one-segment c.segment_index.ensures.refusal c.segment_index.ensures.given c.in-Ok.is
    c.laid_out.ensures

pub returns-in-Err : goal.returns-in-Err
unfolding check_of
returns-in-Err c = refusal-told check_of Err _ refl c.segment_index.ensures.refusal c.in-Err.is c.refused.ensures
