-- `check_values`: the check refuses no value before place i. Assumes nothing.
use Rattle.std.proofs.Common.{Bool, Float, length, get_or}
use lib.Ieee.{nan}
use Rattle.error.specs.declared.Refusal.{Refusal}
use Rattle.graph_checks.proofs.First.{Passed}
use Rattle.graph_traj_laws.specs.Laws.{law_values}
use Rattle.graph_traj_samples.specs.Tests.{Checks}
use Rattle.graph_traj_samples.proofs.kernel.check_values.Given as goal

abbrev pub invariant-loop-i : goal.invariant-loop-i
invariant-loop-i g l =
    let values = law_values (length l.lists.start.now) l.fraction l.lists.start.now l.lists.end.now in
    (bad : Float → Bool) (refusal : Float → Refusal) → Checks (goal.F-post g l.check) bad refusal
    → Passed (λ k. bad (get_or values k nan)) (length values) l.i
