-- What one step of an unweighted run promises (01, parts 8 and 10), told by the value of its segment. Assumes nothing.
use Rattle.std.specs.Prelude.{List, ℕ, get_or, Float}
use Rattle.error.specs.Answer.{Checked}
use Rattle.graph_traj_segment.specs.declared.kernel.Segment.{Segment}
use Rattle.graph_traj_segment.specs.Times.{fraction}
use Rattle.graph_traj_segment.specs.Times.{c1, c2, sample_time}
use Rattle.graph_traj_parts.specs.Trajectory.{Trajectory}
use Rattle.magnus_graph_traj_step.specs.RunStepTaken.{RunStepTaken}

-- one step in segment k, given as a value, that starts at the time `start`: its samples lie at the segment's Gauss nodes
abbrev pub StepAt : Trajectory → ℕ → Segment → Float → Float → Checked → List Float → List Float → Type 0
StepAt t k segment start sign answer w w' =
    RunStepTaken t.nodes t.row_starts t.cols (get_or t.laws k 0) t.starts t.ends k segment.tau
    (fraction (sample_time start c1 segment.tau) segment.start segment.end)
    (fraction (sample_time start c2 segment.tau) segment.start segment.end) sign answer w w'
