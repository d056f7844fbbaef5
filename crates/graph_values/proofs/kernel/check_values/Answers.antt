-- `graph_values::kernel::check_values` meets its contract: where every value is finite there is no fault, and where not, the walk finds the
-- first.
use Rattle.std.proofs.Common.{rules, refl}
use lib.Ieee.{nan}
use lib.Ieee.Scale.{finite}
use Rattle.graph_values.specs.ValueChecks.{not_finite_at, value_fault}
use Rattle.graph_shape.proofs.First.{none-fails, found-first, refuses-found, accepts-none, accepts-not-found}
use Rattle.graph_values.proofs.kernel.check_values.Goals as goal

pub returns-then-all_finite : goal.returns-then-all_finite
unfolding value_fault
returns-then-all_finite c =
    let vals = c.args.vals.list.now in
    accepts-none _ _ _
    (none-fails finite vals nan (not_finite_at vals) (λ k. refl) _ c.all_finite.ensures c.if-all_finite.true)

pub offset_bounds-vals-k : goal.offset_bounds-vals-k
offset_bounds-vals-k c = let h = found-first _ _ c.in-Some.k c.in-Some.ensures in search rules

pub bounds-vals-k : goal.bounds-vals-k
bounds-vals-k c = (found-first _ _ c.in-Some.k c.in-Some.ensures).0

pub returns-in-None : goal.returns-in-None
unfolding value_fault
returns-in-None c = accepts-not-found _ _ _ c.in-None.ensures

pub returns-in-Some : goal.returns-in-Some
unfolding value_fault
returns-in-Some c = refuses-found _ _ _ _ c.in-Some.ensures
