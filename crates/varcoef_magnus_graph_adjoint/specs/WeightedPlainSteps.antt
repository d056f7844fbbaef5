-- What demand 3 says of a step of a weighted run (01, demand 3): its premises, the numbers it forms, and the step of the plain run.
-- Assumes nothing.
use Rattle.std.specs.Prelude.{Bool, ◌&&◌, List, Float}
use Rattle.std.specs.Float.{binary64}
use Rattle.arithmetic.specs.Arithmetic.{ieee}
use Rattle.magnus_plain_sum.specs.PlainSum.{plain_sum}
use Rattle.magnus.specs.Coefficients.{reciprocal_factorial}
use Rattle.magnus_plain_sum.specs.Agree.{agree}
use Rattle.magnus_plain_sum.specs.Formed.{FormedOperator, formed_weighted, formed_step4}
use Rattle.varcoef_magnus_graph_outcome.specs.WeightedOmega4.{sqrt3_over12}
use Rattle.graph_traj_segment.specs.Times.{c1, c2}
use Rattle.graph_traj_parts.specs.Trajectory.{Trajectory}
use Rattle.magnus_graph_traj_steps.specs.RunSteps.{RunStep, Course}
use Rattle.magnus_graph_traj_outcome.specs.PlainSteps.{formed_run_product, step_agrees}
use Rattle.varcoef_magnus_graph_traj_steps.specs.WeightedRunSteps.{weights_at, roots, weighted_product}

module _ (t : Trajectory) (start_weights end_weights : List Float) (course : Course) where
  -- the weighted product with a sample, and the held signal after the step, with, for each signal, whether every number formed is finite
  abbrev pub formed_weighted_product : RunStep → Float → FormedOperator
  formed_weighted_product s c = formed_weighted binary64 t.nodes (roots t start_weights end_weights course s c) (formed_run_product t course s c)

  abbrev pub formed_weighted_run_step : Float → RunStep → FormedOperator
  formed_weighted_run_step sign s =
      formed_step4 binary64 t.nodes (reciprocal_factorial binary64) 4 sqrt3_over12 sign (course.tau s)
      (formed_weighted_product s c1) (formed_weighted_product s c2)

  -- demand 3's premises on a step: its samples and its weights agree, and its τ is 0 or at least 2 ^ -1021
  abbrev pub weighted_step_agrees : RunStep → Bool
  weighted_step_agrees s = step_agrees t course s && agree (weights_at t start_weights end_weights course s c1) (weights_at t start_weights end_weights course s c2)

  -- a step of the plain run (01, demand 3): the plain sum of degree 4 with the weighted product of the first sample alone
  abbrev pub weighted_plain_step : RunStep → List Float → List Float
  weighted_plain_step s =
      plain_sum (ieee binary64) t.nodes (reciprocal_factorial binary64) 4 (course.tau s) (weighted_product t start_weights end_weights course s c1)
