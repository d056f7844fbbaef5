-- `apply_exp_omega6_kernel` meets its contract: it makes the checks of `step6_fault`, and where they accept, the kernel's answer is the
-- step's. Demand 3 follows from the definitions. Assumes nothing.
use Rattle.std.proofs.Common.{ℕ, ◌*◌, ◌≤◌, length, sym, subst, ◌∙◌}
use Rattle.graph_checks.specs.Pattern.{ValuedPattern}
use Rattle.magnus_graph_faults.specs.StepChecks.{sample_of}
use Rattle.magnus6_graph_outcome.specs.StepOutcome.{step6_input}
use Rattle.magnus6_graph_outcome.proofs.StepOutcome.{step6-refused, step6-inputs, step6-taken}
use Rattle.magnus6_graph.proofs.apply_exp_omega6_kernel.Goals as goal

pub returns-in_default : goal.returns-in_default
returns-in_default c = step6-refused _ (rw c.of-lengths.ensures at c.check_step6-checked.ensures) c.in_default.is

pub from_parts-requires : goal.from_parts-requires
from_parts-requires c =
    let a = c.args in
    let lent = step6_input (sample_of a.first) (sample_of a.second) (sample_of a.third) a.tau a.bound.rho_bar_max a.bound.convergence_radius_check
    a.src.now a.dst.now a.work.now in
    let l = (step6-inputs lent (rw c.of-lengths.ensures at c.check_step6-checked.ensures) c.in-Ok.is).inputs.laplacian1 in
    record { pattern = l.pattern; count = l.count }

pub from_parts-requires-2 : goal.from_parts-requires-2
from_parts-requires-2 c =
    let a = c.args in
    let lent = step6_input (sample_of a.first) (sample_of a.second) (sample_of a.third) a.tau a.bound.rho_bar_max a.bound.convergence_radius_check
    a.src.now a.dst.now a.work.now in
    let i = (step6-inputs lent (rw c.of-lengths.ensures at c.check_step6-checked.ensures) c.in-Ok.is).inputs in
    subst (λ (n : ℕ). ValuedPattern n a.second.row_ptr.now a.second.col_idx.now a.second.vals.now) (sym i.same_nodes)
    record { pattern = i.laplacian2.pattern; count = i.laplacian2.count }

pub from_parts-requires-3 : goal.from_parts-requires-3
from_parts-requires-3 c =
    let a = c.args in
    let lent = step6_input (sample_of a.first) (sample_of a.second) (sample_of a.third) a.tau a.bound.rho_bar_max a.bound.convergence_radius_check
    a.src.now a.dst.now a.work.now in
    let s = step6-inputs lent (rw c.of-lengths.ensures at c.check_step6-checked.ensures) c.in-Ok.is in
    subst (λ (n : ℕ). ValuedPattern n a.third.row_ptr.now a.third.col_idx.now a.third.vals.now) (sym s.same-nodes3)
    record { pattern = s.laplacian3.pattern; count = s.laplacian3.count }

pub step6-requires : goal.step6-requires
step6-requires c =
    let a = c.args in
    let lent = step6_input (sample_of a.first) (sample_of a.second) (sample_of a.third) a.tau a.bound.rho_bar_max a.bound.convergence_radius_check
    a.src.now a.dst.now a.work.now in
    let s = step6-inputs lent (rw c.of-lengths.ensures at c.check_step6-checked.ensures) c.in-Ok.is in
    let i = s.inputs in
    let n = c.from_parts.ensures.nodes in
    record {
      second_nodes = c.from_parts-2.ensures.nodes ∙ i.same_nodes ∙ sym n;
      third_nodes = c.from_parts-3.ensures.nodes ∙ s.same-nodes3 ∙ sym n;
      src_len = i.signal-length ∙ sym n;
      dst_len = i.output-length ∙ sym n;
      room = subst (λ (n : ℕ). 22 * n ≤ length a.work.now) (sym n) i.room;
    }

pub returns : goal.returns
returns c =
    let a = c.args in
    let lent = step6_input (sample_of a.first) (sample_of a.second) (sample_of a.third) a.tau a.bound.rho_bar_max a.bound.convergence_radius_check
    a.src.now a.dst.now a.work.now in
    step6-taken lent (rw c.of-lengths.ensures at c.check_step6-checked.ensures) c.in-Ok.is c.from_parts.ensures.nodes c.from_parts.ensures.product
    c.from_parts-2.ensures.product c.from_parts-3.ensures.product c.step6.ensures.0 c.step6.ensures.1 c.binary64_values.ensures
    c.binary64_values-2.ensures c.binary64_values-3.ensures
