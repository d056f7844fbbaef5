-- `sample` meets its contract: where every number of the pairs is finite, row 20 refuses neither sample; where not, the two walks find
-- the first fault. Assumes nothing.
use Rattle.std.proofs.Common.{ap, not, length, rules}
use lib.Ieee.Scale.{finite}
use Rattle.error.specs.declared.Refusal.TheVariants.{SampledValue}
use Rattle.error.specs.Checks.{next}
use Rattle.error.proofs.Checks.{handed_on}
use Rattle.graph_traj_samples.specs.Sampled.{sampled_fault}
use Rattle.graph_traj_samples.proofs.Sampled.{both-pass}
use Rattle.graph_traj_samples.proofs.kernel.sample.Goals as goal

pub returns-then-value_pairs : goal.returns-then-value_pairs
unfolding sampled_fault
returns-then-value_pairs c =
    let lists = c.args.lists in
    let f = c.args.fractions in
    let tested = c.value_pairs.ensures.0 finite (λ x y r called. search rules) in (
      both-pass (λ x. not (finite x)) SampledValue finite (λ x. ap not) (length lists.start.now) f.first f.second lists.start.now
          lists.end.now tested c.if-value_pairs.true,
      c.value_pairs.ensures.1,
    )

pub returns-in_err-check_values : goal.returns-in_err-check_values
unfolding sampled_fault next
returns-in_err-check_values c =
    let refused = c.in_err-check_values.ensures (λ x. not (finite x)) SampledValue (λ x r called. search rules) in
    (rw (← refused) (handed_on c.from_residual.ensures), c.value_pairs.ensures.1)

pub returns : goal.returns
unfolding sampled_fault next
returns c =
    let accepted = c.in_ok-check_values.ensures (λ x. not (finite x)) SampledValue (λ x r called. search rules) in
    (rw (← accepted) (c.check_values-2.ensures (λ x. not (finite x)) SampledValue (λ x r called. search rules)), c.value_pairs.ensures.1)
