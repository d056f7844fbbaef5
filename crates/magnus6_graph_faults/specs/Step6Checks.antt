-- The checks of the step of order 6: the order of all rows of document 01's table that it can answer. Assumes nothing.
use Rattle.std.specs.Prelude.{Bool, ℕ, ◌*◌ as ◌*ℕ◌, Float}
use Rattle.error.specs.Checks.{next}
use Rattle.error.specs.Lengths.{length_fault}
use Rattle.error.specs.Answer.{Checked}
use Rattle.magnus_graph_faults.specs.StepChecks.{Sample, sample_fault, samples_fault, bound_fault, step_length_fault}
use Rattle.magnus_graph_faults.specs.StepChecks.{lengths_fault, room_fault}

-- the three samples of order 6, each wholly before the next
unfoldable pub samples6_fault : Sample → Sample → Sample → Checked
samples6_fault first second third = next (samples_fault first second) (sample_fault third)

-- 10 for the second sample's n, the third sample's n, the signal and the output
unfoldable pub lengths6_fault : ℕ → ℕ → ℕ → ℕ → ℕ → Checked
lengths6_fault n second third signal output = next (length_fault second n) (lengths_fault n third signal output)

-- A step of order 6: the samples, 9, 7 and 8, then 10, last of it the work slice, whose need is 22n.
unfoldable pub step6_fault : Sample → Sample → Sample → Float → Float → Bool → ℕ → ℕ → ℕ → Checked
step6_fault first second third τ bound checked signal output work =
    next (samples6_fault first second third)
    (next (bound_fault bound)
    (next (step_length_fault τ bound checked)
    (next (lengths6_fault first.nodes second.nodes third.nodes signal output)
    (room_fault work (22 *ℕ first.nodes)))))
