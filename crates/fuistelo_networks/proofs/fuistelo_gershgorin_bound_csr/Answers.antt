-- `fuistelo_gershgorin_bound_csr` meets its contract: the struct carries the bound that the call gave, or is that of its refusal. Assumes nothing.
use Rattle.std.proofs.Common.{◌≡◌, refl}
use Rattle.std.specs.Prelude.{Result, Ok, Err, Float}
use Rattle.error.specs.declared.Refusal.{Refusal}
use Rattle.error.specs.Refusals.{real}
use Rattle.graph.specs.BoundAnswer.{check_of}
use Rattle.answer.proofs.Struct.{given-told, refusal-told}
use Rattle.fuistelo_networks.proofs.fuistelo_gershgorin_bound_csr.Goals as goal

one-bound : {x y : Float} → ◌≡◌ {A = Result Float Refusal} (Ok x) (Ok y) → x ≡ y
one-bound p = cc

pub returns-in-Ok : goal.returns-in-Ok
unfolding check_of
returns-in-Ok c =
    let call = c.gershgorin_bound_csr.ensures in
    given-told check_of Ok real refl one-bound call.refusal call.given c.in-Ok.is c.laid_out.ensures

pub returns-in-Err : goal.returns-in-Err
unfolding check_of
returns-in-Err c = refusal-told check_of Err _ refl c.gershgorin_bound_csr.ensures.refusal c.in-Err.is c.refused.ensures
