-- `graph_shape::check_row_starts` meets its contract: where the quick walk says that the starts rise there is no fault, and where not, the loop
-- stops at the first start that exceeds the next.
use Rattle.std.proofs.Common.{◌≡◌, ◌<◌, ℕ, List, arith, length, length-take, get_or, take, le-ltb, lt-ltb}
use lib.Seq.{get_or-take}
use Rattle.graph_shape.specs.ShapeChecks.{row_starts_fault}
use Rattle.graph_shape.proofs.First.{passed_none, passed-more, passed-found, refuses-first, accepts-none}
use Rattle.graph_shape.proofs.check_row_starts.Goals as goal

pub returns-then-row_starts_rise : goal.returns-then-row_starts_rise
unfolding row_starts_fault
returns-then-row_starts_rise c = accepts-none _ _ _ (c.row_starts_rise.ensures c.if-row_starts_rise.true)

pub loop-i-init : goal.loop-i-init
loop-i-init c = passed_none

-- the start that a turn looks at is that of all the starts
inside : (n : ℕ) (starts : List ℕ) {i : ℕ} → i < length (take n starts) → i < n
inside n starts l = omega (arith, length-take n starts)

start : (n : ℕ) (starts : List ℕ) {i : ℕ} → i < length (take n starts) → get_or (take n starts) i 0 ≡ get_or starts i 0
start n starts {i} l = get_or-take n starts i 0 (inside n starts l)

pub loop-i-preserved : goal.loop-i-preserved
loop-i-preserved c =
    passed-more c.loop-i.invariant (inside _ c.args.row_ptr.now c.loop-i-test.true) (le-ltb _ _ (omega (arith, start c.args.n c.args.row_ptr.now c.loop-i-test.true, c.if-start-row_ptr.false)))

pub returns-then-start-row_ptr : goal.returns-then-start-row_ptr
unfolding row_starts_fault
returns-then-start-row_ptr c =
    refuses-first _ _ _ _ (inside _ c.args.row_ptr.now c.loop-i-test.true)
    (passed-found c.loop-i.invariant (lt-ltb _ _ (omega (arith, start c.args.n c.args.row_ptr.now c.loop-i-test.true, c.if-start-row_ptr.true))))

pub returns : goal.returns
unfolding row_starts_fault
returns c = accepts-none _ _ _ (λ j m. c.loop-i.invariant.none j (omega (arith, length-take c.args.n c.args.row_ptr.now)))
