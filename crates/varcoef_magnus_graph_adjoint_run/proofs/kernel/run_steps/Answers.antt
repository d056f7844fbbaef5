-- `run_steps` meets its contract: under law 2 it takes the steps with samples of law 2, and under laws 0 and 1 those with the list that
-- the law names. Assumes nothing.
use Rattle.std.proofs.Common.{◌≡◌, ℕ, List, Float, ◌≤◌, length, get_or, sym, ap, ◌∙◌, arith}
use Rattle.graph_traj_laws.specs.Laws.{law_list}
use Rattle.graph_traj_laws.proofs.Laws.{length-law}
use Rattle.graph_traj_parts.specs.Trajectory.{trajectory_of}
use Rattle.varcoef_magnus_graph_traj_steps.proofs.ByLaw.{taken-2, taken-listed, starts-size, ends-size, law-known}
use Rattle.varcoef_magnus_graph_adjoint_run.proofs.kernel.run_steps.Goals as goal

-- a law that is not 2 is 0 or 1
constant : (law : ℕ) → law ≤ 2 → (law ≡ 2 → ⊥) → law ≤ 1
constant law known other = omega arith

-- the list that the law names is as long as the two lists of the one segment, of m elements
law-size : (law m : ℕ) (start end : List Float) → length start ≡ m → length end ≡ m → length (law_list law 0 (length start) start end) ≡ m
law-size law m start end p q = length-law law 0 (length start) start end (omega arith) (omega (arith, p, q)) ∙ p

-- each segment list has a value for each column, or a weight for each node
pub invariant_of-values : goal.invariant_of-values
invariant_of-values c =
    let given = c.args.along.accepted in
    let t = trajectory_of c.args.along.parts in
    record { same = ends-size t given ∙ sym (starts-size t given) }

pub invariant_of-weights : goal.invariant_of-weights
invariant_of-weights c =
    let size = c.args.along.weights_len in
    record { same = size.1 ∙ sym size.0 }

pub invariant_of-lists : goal.invariant_of-lists
invariant_of-lists c =
    let a = c.args.along in
    let t = trajectory_of a.parts in
    record { values_len = starts-size t a.accepted; weights_len = a.weights_len.0 }

pub returns-then-law-eq2 : goal.returns-then-law-eq2
returns-then-law-eq2 c =
    let a = c.args.along in
    let t = trajectory_of a.parts in
    taken-2 t a.weights.first.now a.weights.second.now c.args.tau c.args.steps (starts-size t a.accepted) (ends-size t a.accepted)
    a.weights_len.0 _ c.if-law-eq2.true
    (rw c.with_tau-first.ensures at c.sampled_steps.ensures)

-- the list that the law names has a value for each column
pub invariant_of-constant_steps : goal.invariant_of-constant_steps
invariant_of-constant_steps c =
    let given = c.args.along.accepted in
    let t = trajectory_of c.args.along.parts in
    record {
      count = ap length c.law_list-vals.ensures ∙ law-size _ _ t.starts t.ends (starts-size t given) (ends-size t given);
    }

pub constant_steps-requires-clause-a_len : goal.constant_steps-requires-clause-a_len
constant_steps-requires-clause-a_len c =
    let a = c.args.along in
    let size = a.weights_len in (
      ap length c.law_list-a.ensures ∙ law-size _ _ a.weights.first.now a.weights.second.now size.0 size.1,
      c.requires.0,
    )

pub returns : goal.returns
returns c =
    let a = c.args.along in
    let given = a.accepted in
    let t = trajectory_of a.parts in
    let first = a.weights.first.now in
    let second = a.weights.second.now in
    let law = get_or t.laws 0 0 in
    let vals = c.law_list-vals.ensures ∙ ap (λ (m : ℕ). law_list law 0 m t.starts t.ends) (starts-size t given) in
    let weights = c.law_list-a.ensures ∙ ap (λ (m : ℕ). law_list law 0 m first second) a.weights_len.0 in
    taken-listed t first second c.args.tau c.args.steps (starts-size t given) (ends-size t given)
    a.weights_len.0 _ a.weights_len.1 (constant _ (law-known t given) c.if-law-eq2.false) given.accepted.lists.finite-starts
    given.accepted.lists.finite-ends vals weights c.constant_steps.ensures
