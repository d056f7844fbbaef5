-- Row 8 accepts the segments before the breakpoints that are left, which begin with the next segment's. Assumes nothing.
use Rattle.graph_traj_checks.proofs.SegmentsRadius.{Walked}
use Rattle.graph_traj_checks.proofs.check.check_segments_radius.Given as goal

abbrev pub invariant-loop-pair : goal.invariant-loop-pair
invariant-loop-pair l =
    let t = l.trajectory in
    Walked l.bound.convergence_radius_check l.bound.rho_bar_max l.steps t.breakpoints.now t.segments l.pair-iterator
