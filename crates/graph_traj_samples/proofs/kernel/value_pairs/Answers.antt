-- `value_pairs` meets its contract: a turn writes the next pair, from the elements that the two lists have at its place, and tests both.
-- Assumes nothing.
use Rattle.std.proofs.Common.{refl, arith}
use Rattle.float.proofs.All.{all-of-none}
use Rattle.scratch.proofs.Writing.{written_none, written_all}
use Rattle.graph_pairs.proofs.Pairs.{pair-written}
use Rattle.graph_traj_samples.proofs.Sampled.{so-far-next, so-far-all}
use Rattle.graph_traj_samples.proofs.kernel.value_pairs.Goals as goal

pub loop-i-init : goal.loop-i-init
loop-i-init g c = ((λ good tests. all-of-none good), written_none _ _ _ _)

pub loop-i-preserved : goal.loop-i-preserved
loop-i-preserved g c =
    let turn = c.loop-i-test.true in
    let first = c.law_value-first.ensures in
    let second = c.law_value-second.ensures in (
      (λ good tests. so-far-next good _ _ _ (c.loop-i.invariant.0 good tests) turn first second (tests _ _ _ c.both_pass-passed.ensures)),
      pair-written _ _ c.loop-i.invariant.1 turn _ _ _ _ refl (omega arith) first second,
    )

pub returns : goal.returns
returns g c =
    let last = c.loop-i-test.false in (
      (λ good tests. so-far-all good _ _ _ (c.loop-i.invariant.0 good tests) last),
      written_all c.loop-i.invariant.1 (omega arith) refl,
    )
