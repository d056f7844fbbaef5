-- `step_at` meets its contract: the pools hold segment k's lists, in which each segment has as many values as there are columns.
-- Assumes nothing.
use Rattle.graph_traj_parts.specs.Trajectory.{trajectory_of}
use Rattle.magnus_graph_traj_run.proofs.Cut.{starts-hold, ends-hold, cut-length, cut-finite, step-of-cut}
use Rattle.magnus_graph_traj_run.proofs.kernel.step_at.Goals as goal

pub of_segment-lists-requires : goal.of_segment-lists-requires
of_segment-lists-requires c =
    let t = c.args.trajectory in
    let of = trajectory_of t.parts in
    let k = c.args.k in (starts-hold of t.accepted k c.requires.0, ends-hold of t.accepted k c.requires.0)

pub run_step-requires-clause-lists_len : goal.run_step-requires-clause-lists_len
run_step-requires-clause-lists_len c =
    let t = c.args.trajectory in
    let of = trajectory_of t.parts in
    cut-length of c.args.k _ (starts-hold of t.accepted c.args.k c.requires.0) c.of_segment-lists.ensures.start_list

pub run_step-requires-clause-by_index : goal.run_step-requires-clause-by_index
run_step-requires-clause-by_index c =
    let t = c.args.trajectory in
    let of = trajectory_of t.parts in
    let lists = c.of_segment-lists.ensures in
    let k = c.args.k in (
      cut-finite of k _ (starts-hold of t.accepted k c.requires.0) lists.start_list t.accepted.lists.finite-starts,
      cut-finite of k _ (ends-hold of t.accepted k c.requires.0) lists.end_list t.accepted.lists.finite-ends,
    )

pub returns : goal.returns
returns c =
    let t = c.args.trajectory in
    let of = trajectory_of t.parts in
    let lists = c.of_segment-lists.ensures in
    let k = c.args.k in
    step-of-cut of k c.args.segment c.args.t_start c.args.sign (starts-hold of t.accepted k c.requires.0)
    (ends-hold of t.accepted k c.requires.0) lists.start_list lists.end_list c.first_sample.ensures c.second_sample.ensures
    c.fraction.ensures c.fraction-2.ensures c.run_step.ensures
