-- The checks of the adjoint runs, unweighted and weighted: row 16 of document 01's table and row 10 as these runs have them, and the
-- order of all rows that a run can answer before its first step. Assumes nothing.
use Rattle.std.specs.Prelude.{Bool, cond, ℕ, ◌+◌, ◌*◌, eqb, ltb, length, Float}
use Rattle.error.specs.Checks.{refuse_if, next}
use Rattle.error.specs.declared.Refusal.TheVariants.{StepCount}
use Rattle.error.specs.Answer.{Checked}
use Rattle.graph_traj_parts.specs.Trajectory.{Trajectory}
use Rattle.graph_traj_parts.specs.TrajectoryChecks.{adjoint_trajectory_fault}
use Rattle.magnus_graph_faults.specs.StepChecks.{bound_fault, step_length_fault, room_fault}
use Rattle.varcoef_magnus_graph_faults.specs.WeightedStepChecks.{weighted_bounds_fault, weighted_bound, weights_length_fault}
use Rattle.graph_traj_faults.specs.RunChecks.{run_need, signals_fault, run_lengths_fault}

-- ---- the rows of the table

-- row 16 of an adjoint run, which may have no steps: over 65,535
unfoldable pub adjoint_step_count_fault : ℕ → Checked
adjoint_step_count_fault steps = refuse_if (ltb 65535 steps) (StepCount steps)

-- the need of a weighted run's work slice: 11n + 2m
abbrev pub weighted_run_need : Trajectory → ℕ
weighted_run_need t = 11 * t.nodes + 2 * length t.cols

-- row 10 of a weighted run: the signal, the output, the two lists of weights, the work slice
unfoldable pub weighted_run_lengths_fault : ℕ → ℕ → ℕ → ℕ → ℕ → ℕ → ℕ → Checked
weighted_run_lengths_fault n signal output starts ends work need =
    next (signals_fault n signal output) (next (weights_length_fault n starts ends) (room_fault work need))

-- ---- their order

-- The steps of an adjoint run: 16, 7, 8. The bound is row 8's.
unfoldable pub adjoint_steps_fault : ℕ → Float → Float → Bool → Checked
adjoint_steps_fault steps τ bound checked = next (adjoint_step_count_fault steps) (step_length_fault τ bound checked)

-- An adjoint run: 6 and 1 to 4, 13 to 15, 17, 19 and 5 of its trajectory, 9; then with no steps 10 for the signal and the output
-- alone, else 16, 7, 8, 10.
unfoldable pub adjoint_run_fault : Trajectory → Float → ℕ → Float → Bool → ℕ → ℕ → ℕ → Checked
adjoint_run_fault t τ steps bound checked signal output work =
    next (adjoint_trajectory_fault t)
    (next (bound_fault bound)
    (cond (eqb steps 0) (signals_fault t.nodes signal output)
    (next (adjoint_steps_fault steps τ bound checked)
    (run_lengths_fault t.nodes signal output work (run_need t)))))

-- A weighted adjoint run: the same, with 9 for both bounds and 12, the weighted bound in 8, and the weights in 10. The weights, a
-- start list and an end list, are given by their lengths; row 11 is met within a step, since it is about sampled weights.
unfoldable pub weighted_adjoint_run_fault : Trajectory → Float → ℕ → Float → Float → Bool → ℕ → ℕ → ℕ → ℕ → ℕ → Checked
weighted_adjoint_run_fault t τ steps bound root_bound checked signal output starts ends work =
    next (adjoint_trajectory_fault t)
    (next (weighted_bounds_fault bound root_bound t.nodes)
    (cond (eqb steps 0) (signals_fault t.nodes signal output)
    (next (adjoint_steps_fault steps τ (weighted_bound bound root_bound) checked)
    (weighted_run_lengths_fault t.nodes signal output starts ends work (weighted_run_need t)))))
