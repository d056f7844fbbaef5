-- `graph_counts::check_size` meets its contract: it makes the two tests of `size_fault` in their order.
use Rattle.std.proofs.Common.{arith, refl, lt-ltb, le-ltb}
use Rattle.error.proofs.Checks.{refuses, accepts, refused-here, accepted-then}
use Rattle.graph_counts.specs.CountChecks.{size_fault}
use Rattle.graph_counts.proofs.check_size.Goals as goal

pub returns-then-n-gt-MOST_NODES : goal.returns-then-n-gt-MOST_NODES
unfolding size_fault
returns-then-n-gt-MOST_NODES c = refused-here _ _ _ _ (refuses _ _ (lt-ltb _ _ (omega arith))) refl

pub returns-then-columns-gt-MOST_COLUMNS : goal.returns-then-columns-gt-MOST_COLUMNS
unfolding size_fault
returns-then-columns-gt-MOST_COLUMNS c =
    accepted-then _ _ _ _ (accepts _ _ (le-ltb _ _ (omega arith))) refl (refuses _ _ (lt-ltb _ _ (omega arith)))

pub returns : goal.returns
unfolding size_fault
returns c =
    accepted-then _ _ _ _ (accepts _ _ (le-ltb _ _ (omega arith))) refl (accepts _ _ (le-ltb _ _ (omega arith)))
