-- `graph_shape::row_starts_rise` meets its contract: the loop joins every start and its distance from the next, so that each of these rises.
use Rattle.std.proofs.Common.{rules, ◌≡◌, ◌<◌, ℕ, List, arith, length, length-take, get_or, take}
use lib.Seq.{get_or-take}
use Rattle.graph_shape.proofs.RowStarts.{joined-more}
use Rattle.graph_shape.proofs.row_starts_rise.Goals as goal

-- the start that a turn looks at is that of all the starts
start : (n : ℕ) (starts : List ℕ) {i : ℕ} → i < length (take n starts) → get_or (take n starts) i 0 ≡ get_or starts i 0
start n starts {i} l = get_or-take n starts i 0 (omega (arith, length-take n starts))

pub loop-i-preserved : goal.loop-i-preserved
loop-i-preserved c =
    joined-more c.args.row_ptr.now c.loop-i.i c.loop-i.joined _ c.wrapping_sub_usize-distance.result
    (start c.args.n c.args.row_ptr.now c.loop-i-test.true) (search rules) c.loop-i.invariant
