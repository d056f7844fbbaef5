-- `step` meets its contract: it makes the checks of `weighted_step_fault`, and where they accept, the kernel's answer is the step's. Demand 3
-- follows from the definitions. Assumes nothing.
use Rattle.std.proofs.Common.{rules, ℕ, ◌*◌, ◌≤◌, length, sym, subst, ◌∙◌}
use lib.Ieee.{of_bits}
use Rattle.graph_checks.specs.Pattern.{ValuedPattern}
use Rattle.magnus_graph_faults.specs.StepChecks.{sample_of}
use Rattle.varcoef_magnus_graph_outcome.specs.StepOutcome.{step_input}
use Rattle.varcoef_magnus_graph_outcome.proofs.StepOutcome.{step-refused, inputs, step-taken}
use Rattle.varcoef_magnus_graph.proofs.step.Goals as goal

pub returns-in_default : goal.returns-in_default
returns-in_default c = step-refused _ _ (rw c.of-lengths.ensures at c.check_weighted_step-checked.ensures) c.in_default.is

pub from_parts-requires : goal.from_parts-requires
from_parts-requires c =
    let a = c.args in
    let lent = step_input (sample_of a.first) (sample_of a.second) a.tau a.bound.rho_bar_max a.weights.a_sup_max a.bound.convergence_radius_check
    a.weights.first.now a.weights.second.now a.src.now a.dst.now a.work.now in
    let l = (inputs a.sign lent (rw c.of-lengths.ensures at c.check_weighted_step-checked.ensures) c.in-Ok.is).inputs.laplacian1 in
    record { pattern = l.pattern; count = l.count }

pub from_parts-requires-2 : goal.from_parts-requires-2
from_parts-requires-2 c =
    let a = c.args in
    let lent = step_input (sample_of a.first) (sample_of a.second) a.tau a.bound.rho_bar_max a.weights.a_sup_max a.bound.convergence_radius_check
    a.weights.first.now a.weights.second.now a.src.now a.dst.now a.work.now in
    let i = (inputs a.sign lent (rw c.of-lengths.ensures at c.check_weighted_step-checked.ensures) c.in-Ok.is).inputs in
    subst (λ (n : ℕ). ValuedPattern n a.second.row_ptr.now a.second.col_idx.now a.second.vals.now) (sym i.same_nodes)
    record { pattern = i.laplacian2.pattern; count = i.laplacian2.count }

pub step4_la-requires : goal.step4_la-requires
step4_la-requires c =
    let a = c.args in
    let lent = step_input (sample_of a.first) (sample_of a.second) a.tau a.bound.rho_bar_max a.weights.a_sup_max a.bound.convergence_radius_check
    a.weights.first.now a.weights.second.now a.src.now a.dst.now a.work.now in
    let s = inputs a.sign lent (rw c.of-lengths.ensures at c.check_weighted_step-checked.ensures) c.in-Ok.is in
    let i = s.inputs in
    let n = c.from_parts.ensures.nodes in
    record {
      same_nodes = c.from_parts-2.ensures.nodes ∙ i.same_nodes ∙ sym n;
      weights1_len = s.of-first.count ∙ sym n;
      weights2_len = s.of-second.count ∙ sym n;
      src_len = i.signal-length ∙ sym n;
      dst_len = i.output-length ∙ sym n;
      room = subst (λ (n : ℕ). 9 * n ≤ length a.work.now) (sym n) i.room;
    }

pub returns : goal.returns
unfolding of_bits
returns c =
    let a = c.args in
    let lent = step_input (sample_of a.first) (sample_of a.second) a.tau a.bound.rho_bar_max a.weights.a_sup_max a.bound.convergence_radius_check
    a.weights.first.now a.weights.second.now a.src.now a.dst.now a.work.now in
    step-taken a.sign lent (rw c.of-lengths.ensures at c.check_weighted_step-checked.ensures) c.in-Ok.is c.from_parts.ensures.nodes c.from_parts.ensures.product
    c.from_parts-2.ensures.product c.step4_la.ensures.0 c.step4_la.ensures.1 c.binary64_values.ensures c.binary64_values-2.ensures
    c.binary64_values-3.ensures c.binary64_values-4.ensures (search rules)
