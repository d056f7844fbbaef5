-- The checks of the forward run: row 16 of document 01's table, rows 8 and 10 as the runs have them, and the order of all rows that the
-- run can answer before its first step. Assumes nothing.
use Rattle.std.specs.Prelude.{Bool, ◌||◌, List, ℕ, ◌+◌, ◌*◌, eqb, ltb, length, Float}
use Rattle.error.specs.Checks.{refuse_if, next}
use Rattle.error.specs.Lengths.{length_fault}
use Rattle.error.specs.declared.Refusal.TheVariants.{StepCount}
use Rattle.error.specs.Answer.{Checked}
use Rattle.graph_traj_breakpoints.specs.Breakpoints.{breakpoint}
use Rattle.graph_traj_segment.specs.Times.{segment_tau}
use Rattle.graph_traj_parts.specs.Trajectory.{Trajectory}
use Rattle.graph_traj_parts.specs.TrajectoryChecks.{first_breakpoint_fault, trajectory_fault}
use Rattle.magnus_graph_faults.specs.StepChecks.{bound_fault, radius_fault, room_fault}
use Rattle.graph_traj_faults.specs.Each.{each}

-- ---- the rows of the table

-- row 16 of a forward run: no steps, or over 65,535
unfoldable pub step_count_fault : ℕ → Checked
step_count_fault steps = refuse_if (eqb steps 0 || ltb 65535 steps) (StepCount steps)

-- τ of segment i
abbrev pub tau_of : List Float → ℕ → ℕ → Float
tau_of breakpoints steps i = segment_tau (breakpoint breakpoints i) (breakpoint breakpoints (i + 1)) steps

-- row 8 of a forward run: that of each segment's τ, in order
unfoldable pub segments_radius_fault : Bool → Float → ℕ → List Float → ℕ → Checked
segments_radius_fault checked bound steps breakpoints segments =
    each (λ i. radius_fault checked (tau_of breakpoints steps i) bound) segments

-- the need of an unweighted run's work slice: 7n + 2m
abbrev pub run_need : Trajectory → ℕ
run_need t = 7 * t.nodes + 2 * length t.cols

-- row 10 for the signal and the output
unfoldable pub signals_fault : ℕ → ℕ → ℕ → Checked
signals_fault n signal output = next (length_fault signal n) (length_fault output n)

-- row 10 of an unweighted run: the signal, the output, the work slice
unfoldable pub run_lengths_fault : ℕ → ℕ → ℕ → ℕ → ℕ → Checked
run_lengths_fault n signal output work need = next (signals_fault n signal output) (room_fault work need)

-- ---- their order

-- A forward run: 6 and 1 to 4, 13, 14, 15, 19 and 5 of its trajectory, 9, 16, 17, 10, then 8 by segment. Signal, output and work are
-- given by their lengths.
unfoldable pub run_fault : Trajectory → ℕ → Float → Bool → ℕ → ℕ → ℕ → Checked
run_fault t steps bound checked signal output work =
    next (trajectory_fault t)
    (next (bound_fault bound)
    (next (step_count_fault steps)
    (next (first_breakpoint_fault (breakpoint t.breakpoints 0))
    (next (run_lengths_fault t.nodes signal output work (run_need t))
    (segments_radius_fault checked bound steps t.breakpoints t.segments)))))
