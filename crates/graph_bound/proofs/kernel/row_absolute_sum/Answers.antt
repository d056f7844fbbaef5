-- `graph_bound::kernel::row_absolute_sum` meets its contract: a turn adds the absolute value of the row's next entry.
use Rattle.std.proofs.Common.{arith, take, drop, ◌≡◌, ◌∙◌, ◌+◌, ◌-◌, ◌<◌, sym, ap, length-take, length-drop}
use lib.Ieee.{binary64, nan}
use lib.ListN.{get_or}
use lib.Seq.{get_or-take, get_or-drop}
use Rattle.graph_bound.specs.Gershgorin.{absolute, absolute_sum, row_absolute_sum}
use Rattle.graph_bound.proofs.Gershgorin.{absolute-below, absolute-not-below, absolute-sum-none, absolute-sum-next}
use Rattle.graph_bound.proofs.kernel.row_absolute_sum.Goals as goal
use Rattle.graph_bound.proofs.kernel.row_absolute_sum.Goals.{then-v, else-v}

pub loop-v-init : goal.loop-v-init
loop-v-init c =
    let lo = get_or c.args.vals.now.row_starts.row_ptr.now c.args.i 0 in
    let none : lo + 0 ≡ lo = omega arith in
    sym (ap (absolute_sum binary64 c.args.vals.now.list.now lo) none ∙ absolute-sum-none binary64 c.args.vals.now.list.now lo)

pub loop-v-preserved : goal.loop-v-preserved
loop-v-preserved c =
    let vals = c.args.vals.now.list.now in
    let lo = get_or c.args.vals.now.row_starts.row_ptr.now c.args.i 0 in
    let size = get_or c.args.vals.now.row_starts.row_ptr.now (c.args.i + 1) 0 - lo in
    let k = c.loop-v.v-index in
    let inside : k < size = omega (arith, length-take size (drop lo vals)) in
    let item : get_or (take size (drop lo vals)) k nan ≡ get_or vals (lo + k) nan =
    get_or-take size (drop lo vals) k nan inside ∙ get_or-drop lo vals k nan in
    let chosen : c.if-v.av ≡ absolute binary64 (get_or vals (lo + k) nan) =
    elim c.if-v.branch [
      | then-v w ↦ w.av-is ∙ sym (absolute-below binary64 _ w.if-v.true) ∙ ap (absolute binary64) item
      | else-v w ↦ w.av-is ∙ sym (absolute-not-below binary64 _ w.if-v.false) ∙ ap (absolute binary64) item
    ] in
    let next : lo + (k + 1) ≡ lo + k + 1 = omega arith in
    rw (c.loop-v.invariant, chosen)
    (sym (ap (absolute_sum binary64 vals lo) next ∙ absolute-sum-next binary64 vals lo (lo + k) (omega arith)))

pub returns : goal.returns
unfolding row_absolute_sum
returns c =
    let vals = c.args.vals.now.list.now in
    let lo = get_or c.args.vals.now.row_starts.row_ptr.now c.args.i 0 in
    let hi = get_or c.args.vals.now.row_starts.row_ptr.now (c.args.i + 1) 0 in
    let rising = c.args.vals.now.row_starts.accepted.rising c.args.i c.requires in
    let within = c.args.vals.now.row_starts.accepted.within (c.args.i + 1) (omega (arith, c.requires)) in
    let last : lo + c.loop-v.v-index ≡ hi = omega (arith, length-take (hi - lo) (drop lo vals), length-drop lo vals, rising, within, c.args.vals.now.count) in
    c.loop-v.invariant ∙ ap (absolute_sum binary64 vals lo) last
