-- `graph_columns::kernel::check_columns` meets its contract: where every column is below n there is no fault, and where not, the walk finds the
-- first.
use Rattle.std.proofs.Common.{rules, ◌≡◌, refl, ℕ, Bool, true, false, not, get_or}
use lib.Dec.{leb, ltb}
use borrow.Author.Tests.{le-leb, lt-leb, ltb-true, ltb-false}
use Rattle.graph_columns.specs.ColumnChecks.{outside_at, column_fault}
use Rattle.graph_shape.proofs.First.{none-fails, found-first, refuses-found, accepts-none, accepts-not-found}
use Rattle.graph_columns.proofs.kernel.check_columns.Goals as goal

-- n or more is not below n
at-least-is-not-below : (n c : ℕ) → leb n c ≡ not (ltb c n)
at-least-is-not-below n c = by-test (ltb c n) refl
  where
    by-test : (t : Bool) → ltb c n ≡ t → leb n c ≡ not t
    by-test true e = lt-leb n c (ltb-true c n e)
    by-test false e = le-leb n c (ltb-false c n e)

pub returns-then-columns_inside : goal.returns-then-columns_inside
unfolding column_fault
returns-then-columns_inside c =
    let n = c.args.columns.row_starts.n in
    let cols = c.args.columns.list.now in
    accepts-none _ _ _
    (none-fails (λ column. ltb column n) cols 0 (outside_at n cols) (λ k. at-least-is-not-below n (get_or cols k 0)) _
    c.columns_inside.ensures c.if-columns_inside.true)

pub offset_bounds-columns-k : goal.offset_bounds-columns-k
offset_bounds-columns-k c = let h = found-first _ _ c.in-Some.k c.in-Some.ensures in search rules

pub bounds-columns-k : goal.bounds-columns-k
bounds-columns-k c = (found-first _ _ c.in-Some.k c.in-Some.ensures).0

pub returns-in-None : goal.returns-in-None
unfolding column_fault
returns-in-None c = accepts-not-found _ _ _ c.in-None.ensures

pub returns-in-Some : goal.returns-in-Some
unfolding column_fault
returns-in-Some c = refuses-found _ _ _ _ c.in-Some.ensures
