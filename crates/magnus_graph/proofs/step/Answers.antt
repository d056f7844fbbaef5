-- `step` meets its contract: it makes the checks of `step_fault`, and where they accept, the kernel's answer is the step's. Demand 3 follows
-- from the definitions. Assumes nothing.
use Rattle.std.proofs.Common.{rules, ℕ, ◌*◌, ◌≤◌, length, sym, subst, ◌∙◌}
use lib.Ieee.{of_bits}
use Rattle.graph_checks.specs.Pattern.{ValuedPattern}
use Rattle.magnus_graph_faults.specs.StepChecks.{sample_of}
use Rattle.magnus_graph_outcome.specs.StepOutcome.{step_input}
use Rattle.magnus_graph_outcome.proofs.StepOutcome.{step-refused, inputs, step-taken}
use Rattle.magnus_graph.proofs.step.Goals as goal

pub returns-in_default : goal.returns-in_default
returns-in_default c = step-refused _ _ (rw c.of-lengths.ensures at c.check_step-checked.ensures) c.in_default.is

pub from_parts-requires : goal.from_parts-requires
from_parts-requires c =
    let a = c.args in
    let lent = step_input (sample_of a.first) (sample_of a.second) a.tau a.bound.rho_bar_max a.bound.convergence_radius_check a.src.now a.dst.now a.work.now in
    let l = (inputs a.sign lent (rw c.of-lengths.ensures at c.check_step-checked.ensures) c.in-Ok.is).laplacian1 in
    record { pattern = l.pattern; count = l.count }

pub from_parts-requires-2 : goal.from_parts-requires-2
from_parts-requires-2 c =
    let a = c.args in
    let lent = step_input (sample_of a.first) (sample_of a.second) a.tau a.bound.rho_bar_max a.bound.convergence_radius_check a.src.now a.dst.now a.work.now in
    let i = inputs a.sign lent (rw c.of-lengths.ensures at c.check_step-checked.ensures) c.in-Ok.is in
    subst (λ (n : ℕ). ValuedPattern n a.second.row_ptr.now a.second.col_idx.now a.second.vals.now) (sym i.same_nodes)
    record { pattern = i.laplacian2.pattern; count = i.laplacian2.count }

pub invariant_of-omega : goal.invariant_of-omega
invariant_of-omega c =
    let i = inputs c.args.sign _ (rw c.of-lengths.ensures at c.check_step-checked.ensures) c.in-Ok.is in
    record { same_nodes = c.from_parts-2.ensures.nodes ∙ i.same_nodes ∙ sym c.from_parts.ensures.nodes }

pub step4-requires : goal.step4-requires
step4-requires c =
    let a = c.args in
    let lent = step_input (sample_of a.first) (sample_of a.second) a.tau a.bound.rho_bar_max a.bound.convergence_radius_check a.src.now a.dst.now a.work.now in
    let i = inputs a.sign lent (rw c.of-lengths.ensures at c.check_step-checked.ensures) c.in-Ok.is in
    let n = c.from_parts.ensures.nodes in
    record {
      src_len = i.signal-length ∙ sym n;
      dst_len = i.output-length ∙ sym n;
      room = subst (λ (n : ℕ). 5 * n ≤ length a.work.now) (sym n) i.room;
    }

pub returns : goal.returns
unfolding of_bits
returns c =
    let a = c.args in
    let lent = step_input (sample_of a.first) (sample_of a.second) a.tau a.bound.rho_bar_max a.bound.convergence_radius_check a.src.now a.dst.now a.work.now in
    step-taken a.sign lent (rw c.of-lengths.ensures at c.check_step-checked.ensures) c.in-Ok.is c.from_parts.ensures.nodes c.from_parts.ensures.product
    c.from_parts-2.ensures.product c.step4.ensures.0 c.step4.ensures.1 c.binary64_values.ensures c.binary64_values-2.ensures (search rules)
