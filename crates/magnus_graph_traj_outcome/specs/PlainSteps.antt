-- What demand 3 says of a step of an unweighted run (01, demand 3): its premises, the numbers it forms, and the step of the plain run.
-- Assumes nothing.
use Rattle.std.specs.Prelude.{Bool, ◌&&◌, List, Float}
use Rattle.std.specs.Float.{binary64}
use Rattle.rounding.specs.StepLength.{step_length}
use Rattle.arithmetic.specs.Arithmetic.{ieee}
use Rattle.magnus_plain_sum.specs.PlainSum.{plain_sum}
use Rattle.magnus.specs.Coefficients.{reciprocal_factorial}
use Rattle.magnus_plain_sum.specs.Agree.{agree}
use Rattle.magnus_plain_sum.specs.Formed.{FormedOperator, formed_product, formed_step4}
use Rattle.magnus_graph_outcome.specs.Omega4.{sqrt3_over12}
use Rattle.graph_traj_segment.specs.Times.{c1, c2}
use Rattle.graph_traj_parts.specs.Trajectory.{Trajectory}
use Rattle.magnus_graph_traj_steps.specs.RunSteps.{RunStep, Course, sample_at, product}

module _ (t : Trajectory) (course : Course) where
  -- the product with a sample, and the held signal after the step, with, for each signal, whether every number formed is finite
  abbrev pub formed_run_product : RunStep → Float → FormedOperator
  formed_run_product s c = formed_product binary64 t.nodes t.row_starts t.cols (sample_at t course s c)

  abbrev pub formed_run_step : Float → RunStep → FormedOperator
  formed_run_step sign s =
      formed_step4 binary64 t.nodes (reciprocal_factorial binary64) 4 sqrt3_over12 sign (course.tau s)
      (formed_run_product s c1) (formed_run_product s c2)

  -- demand 3's premises on a step: its samples agree, and its τ is 0 or at least 2 ^ -1021
  abbrev pub step_agrees : RunStep → Bool
  step_agrees s = agree (sample_at t course s c1) (sample_at t course s c2) && step_length binary64 (course.tau s)

  -- a step of the plain run (01, demand 3): the plain sum of degree 4 with the first sample alone
  abbrev pub plain_step : RunStep → List Float → List Float
  plain_step s = plain_sum (ieee binary64) t.nodes (reciprocal_factorial binary64) 4 (course.tau s) (product t course s c1)
