-- The lengths of a call's slices. Assumes nothing.
use Rattle.std.specs.Prelude.{ℕ}
use Rattle.magnus_graph_checks.specs.declared.Lengths.{Lengths}

-- those of the signal, the output and the work slice
abbrev pub lengths_of : ℕ → ℕ → ℕ → Lengths
lengths_of signal output work = record { signal = signal; output = output; work = work }
