-- The steps of a weighted adjoint run in a segment of law 2, told by the lists of its values and of its weights (01, parts 7, 8 and 10).
-- Assumes nothing.
use Rattle.std.specs.Prelude.{List, ℕ, length, Float}
use Rattle.error.specs.Answer.{Checked}
use Rattle.graph_traj_segment.specs.Times.{fraction}
use Rattle.graph_traj_laws.specs.Laws.{law_values}
use Rattle.graph_traj_segment.specs.Times.{c1, c2, adjoint_step_start, sample_time}
use Rattle.magnus_graph_traj_steps.specs.RunSteps.{RunStep}
use Rattle.varcoef_magnus_graph_traj_step.specs.StepTaken.{step_fault, step_image}

-- an adjoint run of so many steps of length τ in a segment of law 2, from the lists of its values and of its weights
module _ (n : ℕ) (row_starts cols : List ℕ) (starts ends start_weights end_weights : List Float) (start end τ : Float) (steps : ℕ) where
  abbrev step_fraction : RunStep → Float → Float
  step_fraction s c = fraction (sample_time (adjoint_step_start τ steps s.number) c τ) start end

  abbrev pub sampled_values : RunStep → Float → List Float
  sampled_values s c = law_values (length starts) (step_fraction s c) starts ends

  abbrev pub sampled_weights : RunStep → Float → List Float
  sampled_weights s c = law_values (length start_weights) (step_fraction s c) start_weights end_weights

  abbrev pub sampled_step_fault : RunStep → Checked
  sampled_step_fault s =
      step_fault n row_starts cols (sampled_values s c1) (sampled_values s c2) (sampled_weights s c1) (sampled_weights s c2)

  abbrev pub sampled_step_image : RunStep → List Float → List Float
  sampled_step_image s =
      step_image n row_starts cols τ (sampled_values s c1) (sampled_values s c2) (sampled_weights s c1) (sampled_weights s c2)
