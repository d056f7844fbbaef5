-- `graph_bound::kernel::gershgorin` meets its contract: a turn takes the larger of what the rows before gave and the next row's sum.
use Rattle.std.proofs.Common.{arith, length, ◌≡◌, ◌-◌, ◌∙◌, sym, ap}
use lib.Ieee.{binary64}
use Rattle.graph_bound.specs.Gershgorin.{larger, largest_to, gershgorin_bound}
use Rattle.graph_bound.proofs.Gershgorin.{larger-first, larger-second, largest-none, largest-next}
use Rattle.graph_bound.proofs.kernel.gershgorin.Goals as goal
use Rattle.graph_bound.proofs.kernel.gershgorin.Goals.{then-row_sum-max_sum, else-row_sum-max_sum}

pub loop-i-init : goal.loop-i-init
loop-i-init c = sym (largest-none binary64 _)

pub loop-i-preserved : goal.loop-i-preserved
loop-i-preserved c =
    let chosen : c.if-row_sum-max_sum.max_sum ≡ larger c.loop-i.max_sum c.row_absolute_sum-row_sum.result =
    elim c.if-row_sum-max_sum.branch [
      | then-row_sum-max_sum w ↦ w.max_sum-is ∙ sym (larger-second _ _ w.if-row_sum-max_sum.true)
      | else-row_sum-max_sum w ↦ w.max_sum-is ∙ sym (larger-first _ _ w.if-row_sum-max_sum.false)
    ] in
    rw (chosen, c.loop-i.invariant, c.row_absolute_sum-row_sum.ensures) (sym (largest-next binary64 _ _))

pub returns : goal.returns
unfolding gershgorin_bound
returns c =
    let last : c.loop-i.i ≡ length c.args.vals.row_starts.row_ptr.now - 1 = omega (arith, c.args.vals.row_starts.accepted.count) in
    c.loop-i.invariant ∙ ap (largest_to binary64 _) last
