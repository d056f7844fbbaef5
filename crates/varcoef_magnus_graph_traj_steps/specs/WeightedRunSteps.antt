-- The steps of a weighted run along a trajectory (01, parts 7, 8 and 10; "Added by design"). The weights of the nodes, a start list and an
-- end list, follow the law of the values, at the same times. Which steps there are and where their samples lie is said for all runs in
-- the crate magnus_graph_traj_steps. Assumes nothing.
use Rattle.std.specs.Prelude.{List, map, get_or, Float}
use Rattle.std.specs.Float.{binary64}
use Rattle.arithmetic.specs.Arithmetic.{ieee}
use Rattle.ieee_square_root.specs.SquareRoot.{square_root}
use Rattle.error.specs.Checks.{next}
use Rattle.error.specs.Answer.{Checked}
use Rattle.magnus.specs.Operators.{weighted}
use Rattle.magnus_graph_step.specs.Omega4.{exp_omega4}
use Rattle.varcoef_magnus_graph_faults.specs.WeightedStepChecks.{weight_fault}
use Rattle.varcoef_magnus_graph_outcome.specs.WeightedOmega4.{sqrt3_over12}
use Rattle.graph_traj_laws.specs.Laws.{values_at}
use Rattle.graph_traj_segment.specs.Times.{c1, c2}
use Rattle.graph_traj_parts.specs.Trajectory.{Trajectory}
use Rattle.magnus_graph_traj_steps.specs.RunSteps.{RunStep, Course, fraction_at, product, run_step_fault}

module _ (t : Trajectory) (start_weights end_weights : List Float) (course : Course) where
  -- the weights at the Gauss node c of a step, by the law of its segment
  unfoldable pub weights_at : RunStep → Float → List Float
  weights_at s c = values_at (get_or t.laws s.segment 0) t.nodes (fraction_at t course s c) start_weights end_weights

  abbrev pub roots : RunStep → Float → List Float
  roots s c = map (square_root binary64) (weights_at s c)

  -- the weighted products with its two samples (01, part 5)
  abbrev pub weighted_product : RunStep → Float → List Float → List Float
  weighted_product s c = weighted (ieee binary64) t.nodes (roots s c) (product t course s c)

  -- row 20 for both samples, then row 11 for the weights of the first and of the second
  unfoldable pub weighted_run_step_fault : RunStep → Checked
  weighted_run_step_fault s = next (run_step_fault t course s) (weight_fault (weights_at s c1) (weights_at s c2))

  -- the held signal after the step
  abbrev pub weighted_run_step_image : Float → RunStep → List Float → List Float
  weighted_run_step_image sign s =
      exp_omega4 binary64 t.nodes sqrt3_over12 sign (course.tau s) (weighted_product s c1) (weighted_product s c2)
