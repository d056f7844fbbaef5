-- `run_step` meets its contract: under law 2 the samples are sampled, and under laws 0 and 1 both are the list that the law names. Assumes
-- nothing.
use Rattle.std.proofs.Common.{refl, ap, ◌∙◌, ◌≤◌, length, arith}
use lib.Ieee.{of_bits}
use Rattle.graph_traj_laws.proofs.Laws.{length-law}
use Rattle.magnus_graph_traj_step.proofs.RunStep.{constant-taken, taken-by-law}
use Rattle.magnus_graph_traj_step.proofs.kernel.run_step.Goals as goal

pub sampled_step-requires-clause-literal : goal.sampled_step-requires-clause-literal
unfolding of_bits
sampled_step-requires-clause-literal c = refl

pub returns-then-law-eq2 : goal.returns-then-law-eq2
returns-then-law-eq2 c = taken-by-law c.args.law c.if-law-eq2.true c.sampled_step.ensures

-- the list that the law names has a value for each column
pub invariant_of-omega : goal.invariant_of-omega
invariant_of-omega c =
    let args = c.args in
    let l = args.lists in
    let m = length l.start.now in
    record {
      count =
          ap length c.law_list-vals.ensures
          ∙ length-law _ 0 m l.start.now l.end.now (omega arith) (omega (arith, l.same))
          ∙ c.requires.lists_len;
    }

pub returns : goal.returns
unfolding of_bits
returns c =
    let args = c.args in
    let p = args.pattern in
    let l = args.lists in
    let pre = c.requires in
    let constant : args.law ≤ 1 = omega (arith, pre.law_bound, c.if-law-eq2.false) in
    constant-taken p.n p.row_ptr.now p.col_idx.now args.law l.start.now l.end.now args.tau args.fractions.first args.fractions.second args.sign
    l.same pre.lists_len constant pre.by_index.0 pre.by_index.1 c.law_list-vals.ensures c.taylor_sum.ensures
