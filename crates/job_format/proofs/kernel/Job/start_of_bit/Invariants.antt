-- Each turn adds the next field, where the job has it.
use Rattle.std.proofs.Common.{◌≡◌, ◌+◌, ◌*◌, ◌≤◌}
use Rattle.job_format.specs.JobFormat.{job_field}
use Rattle.job_format.proofs.kernel.Job.start_of_bit.Given as goal

abbrev pub invariant-loop-field : goal.invariant-loop-field
invariant-loop-field l = record {
  start : l.at ≡ job_field l.self l.field-index;
  small : l.at ≤ 2 + 1048576 * l.field-index;
}
