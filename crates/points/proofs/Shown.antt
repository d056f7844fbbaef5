-- All points of the table hold: what the definitions give is what document 01 says, computed in one step. Assumes nothing.
use mathlib.Core.Path.{◌≡◌, refl}
use mathlib.Core.List.{map}
use lib.Ieee.{add, sub, mul, div, neg, of_bits, of_int, lt, le, eq}
use Rattle.arithmetic.specs.Vector.{tabulate}
use Rattle.arithmetic.specs.Product.{sum_to, entries, row_sum}
use Rattle.error.specs.Checks.{refuse_if, refuse_unequal, next, if_accepted}
use Rattle.error.specs.Lengths.{length_fault}
use Rattle.graph_shape.specs.First.{first, refuse_first}
use Rattle.graph_shape.specs.ShapeChecks.{size_fault, row_start_count_fault, row_starts_fault, entry_count_fault}
use Rattle.graph_columns.specs.ColumnChecks.{column_fault}
use Rattle.graph_checks.specs.PatternChecks.{value_fault}
use Rattle.graph_shape.specs.ShapeChecks.{shape_fault}
use Rattle.graph_checks.specs.PatternChecks.{pattern_fault, csr_fault}
use Rattle.graph.specs.ProductOutcome.{product_fault}
use Rattle.graph_traj.specs.Greatest.{greatest}
use Rattle.graph_traj.specs.Lookup.{segment_at}
use Rattle.graph_traj_breakpoints.specs.LookupChecks.{segment_count_fault, pool_count_fault, not_rising_at, breakpoints_fault}
use Rattle.graph_traj_parts.specs.TrajectoryChecks.{one_segment_fault}
use Rattle.graph_traj_parts.specs.TrajectoryChecks.{first_breakpoint_fault}
use Rattle.graph_traj_breakpoints.specs.LookupChecks.{lookup_time_fault, lookup_fault}
use Rattle.graph_traj_lists.specs.ListChecks.{laws_fault, counts_fault, lists_fault}
use Rattle.graph_traj_parts.specs.TrajectoryChecks.{adjoint_trajectory_fault}
use Rattle.graph_traj_faults.specs.RunChecks.{signals_fault}
use Rattle.graph_traj_adjoint_faults.specs.AdjointRunChecks.{adjoint_run_fault}
use Rattle.job_format.specs.JobFormat.{word16, real as word_real, words16, reals as word_reals, stands, required, allowed, field_sizes}
use Rattle.job_format.specs.JobFormat.{field_start, job_map, job_nodes, job_entries, job_has, job_field, malformed, malformed_fault}
use Rattle.job_format.specs.JobFormat.{job_row_starts, job_columns, job_values, job_tau, job_bound, job_signal}
use Rattle.job_points.specs.ExampleJob.{bytes, numbers, example_job}
use Rattle.job_step.specs.JobOutcome.{job_sign, job_step, job_step_answer, job_step_output, job_answer, job_output}
use Rattle.little_endian.specs.LittleEndian.{little_endian}
use Rattle.magnus.specs.Coefficients.{factorial, reciprocal_factorial}
use Rattle.magnus.specs.Operators.{weighted, omega4, power, taylor}
use Rattle.magnus_plain_sum.specs.Run.{run_along}
use Rattle.magnus_graph_faults.specs.StepChecks.{not_positive, bound_fault, tau_fault, radius_fault}
use Rattle.varcoef_magnus_graph_faults.specs.WeightedStepChecks.{no_nodes_fault, weighted_bound}
use Rattle.varcoef_magnus_graph_faults.specs.WeightedStepChecks.{weights_length_fault, sample_weights_fault}
use Rattle.magnus_graph_faults.specs.StepChecks.{room_fault, sample_fault, samples_fault}
use Rattle.varcoef_magnus_graph_faults.specs.WeightedStepChecks.{weighted_bounds_fault, weight_fault}
use Rattle.magnus_graph_faults.specs.StepChecks.{step_length_fault, lengths_fault, step_fault}
use Rattle.varcoef_magnus_graph_faults.specs.WeightedStepChecks.{weighted_step_fault}
use Rattle.magnus_graph_traj_steps.specs.RunSteps.{first_fault}
use Rattle.scratch.specs.Parts.{put}
use Rattle.ieee_square_root.specs.SquareRoot.{square_root}
use Rattle.points.specs.Points.{points, roots, products, steps, trajectories, x64, reals, answer_or, leaves, root}
use Rattle.points.specs.Points.{no_nodes, two_entries_before, product_of, diagonal, swap, commutator, step_of, step_of_tau, job_of}
use Rattle.points.specs.Points.{weighted_step, weighted_of, breakpoints, lookup, in_segment, outside, one_node, no_steps}

pub points-hold : map (λ p. p.computed) points ≡ map (λ p. p.expected) points
unfolding points roots products steps trajectories x64 reals answer_or leaves root no_nodes two_entries_before product_of diagonal swap commutator step_of step_of_tau job_of weighted_step weighted_of breakpoints lookup in_segment outside one_node no_steps add sub mul div neg of_bits of_int lt le eq tabulate sum_to entries row_sum refuse_if refuse_unequal next if_accepted length_fault first refuse_first size_fault row_start_count_fault row_starts_fault entry_count_fault column_fault value_fault shape_fault pattern_fault csr_fault product_fault greatest segment_at segment_count_fault one_segment_fault pool_count_fault not_rising_at breakpoints_fault first_breakpoint_fault lookup_time_fault laws_fault lookup_fault counts_fault lists_fault adjoint_trajectory_fault signals_fault adjoint_run_fault factorial reciprocal_factorial weighted omega4 power taylor run_along not_positive bound_fault no_nodes_fault tau_fault radius_fault weighted_bound weights_length_fault room_fault sample_weights_fault sample_fault samples_fault weighted_bounds_fault step_length_fault lengths_fault weight_fault step_fault weighted_step_fault first_fault put square_root little_endian word16 word_real words16 word_reals stands required allowed field_sizes field_start job_map job_nodes job_entries job_has job_field malformed malformed_fault job_row_starts job_columns job_values job_tau job_bound job_signal bytes numbers example_job job_sign job_step job_step_answer job_step_output job_answer job_output
points-hold = refl
