-- The lines of the values so far are written, of 17 bytes each.
use Rattle.std.proofs.Common.{◌≡◌, ◌+◌, ◌*◌, length, take}
use Rattle.job_text_numbers.specs.Added.{Added}
use Rattle.job_text.specs.Text.{Lines}
use Rattle.job_text.proofs.kernel.put_lines.Given as goal

abbrev pub invariant-loop-value : goal.invariant-loop-value
invariant-loop-value l = record {
  lines : Added (Lines (take l.value-index l.values)) l.fn.text l.text;
  bytes : length l.text ≡ length l.fn.text + 17 * l.value-index;
}
