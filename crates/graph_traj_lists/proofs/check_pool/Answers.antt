-- `check_pool` meets its contract: where every value is finite there is no fault, and where not, the walk finds the first. Assumes nothing.
use Rattle.std.proofs.Common.{refl, rules}
use lib.Ieee.{nan}
use lib.Ieee.Scale.{finite}
use Rattle.graph_checks.specs.PatternChecks.{not_finite_at, value_fault}
use Rattle.graph_checks.proofs.First.{none-fails, found-first, refuses-found, accepts-none, accepts-not-found}
use Rattle.graph_traj_lists.proofs.check_pool.Goals as goal

pub returns-then-all_finite : goal.returns-then-all_finite
unfolding value_fault
returns-then-all_finite c =
    let values = c.args.values.now in
    accepts-none _ _ _
    (none-fails finite values nan (not_finite_at values) (λ k. refl) _ c.all_finite.ensures c.if-all_finite.true)

pub offset_bounds-values-k : goal.offset_bounds-values-k
offset_bounds-values-k c = let h = found-first _ _ c.in-Some.k c.in-Some.ensures in search rules

pub bounds-values-k : goal.bounds-values-k
bounds-values-k c = (found-first _ _ c.in-Some.k c.in-Some.ensures).0

pub returns-in-None : goal.returns-in-None
unfolding value_fault
returns-in-None c = accepts-not-found _ _ _ c.in-None.ensures

pub returns-in-Some : goal.returns-in-Some
unfolding value_fault
returns-in-Some c = refuses-found _ _ _ _ c.in-Some.ensures
