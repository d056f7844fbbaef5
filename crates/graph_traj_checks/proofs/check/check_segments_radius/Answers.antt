-- `check_segments_radius` meets its contract: the loop stops at the first segment that row 8 refuses. Assumes nothing.
use Rattle.std.proofs.Common.{refl, ap, ◌∙◌}
use Rattle.error.proofs.Checks.{handed_on}
use Rattle.graph_traj_checks.proofs.SegmentsRadius.{walk_begins, walk-on, walk-refused, walk_ends}
use Rattle.graph_traj_checks.proofs.check.check_segments_radius.Goals as goal

pub loop-pair-init : goal.loop-pair-init
loop-pair-init c =
    let same = c.into_iter-pair-iterator.ensures.into_iter_gives in
    let made = c.windows-pair-items.ensures in
    walk_begins c.requires _ (ap (λ w. w.rest.now) same ∙ made.rest) (ap (λ w. w.size) same ∙ made.size)

pub returns-in_err-check_radius : goal.returns-in_err-check_radius
returns-in_err-check_radius c =
    let refused = handed_on c.from_residual.ensures in
    walk-refused c.requires c.loop-pair.invariant c.next.new.self c.in-Some.is c.next.ensures.steps c.new-segment.ensures (refused ∙ c.in_err-check_radius.ensures)
    refused

pub loop-pair-preserved : goal.loop-pair-preserved
loop-pair-preserved c =
    walk-on c.requires c.loop-pair.invariant c.next.new.self c.in-Some.is c.next.ensures.steps c.new-segment.ensures c.in_ok-check_radius.ensures refl

pub returns : goal.returns
returns c = walk_ends c.requires c.loop-pair.invariant c.next.new.self c.in-None.is c.next.ensures.steps
