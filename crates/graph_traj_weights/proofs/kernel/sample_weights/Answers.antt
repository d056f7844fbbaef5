-- `sample_weights` meets its contract: where every number of the pairs is finite and above 0, row 11 refuses neither sample's weights;
-- where not, the two walks find the first fault. Assumes nothing.
use Rattle.std.proofs.Common.{not, length, rules}
use borrow.Author.Tests.{not-true}
use Rattle.error.specs.declared.Refusal.TheVariants.{Weight}
use Rattle.error.specs.Checks.{next}
use Rattle.error.proofs.Checks.{handed_on}
use Rattle.magnus_graph_faults.specs.StepChecks.{not_positive}
use Rattle.varcoef_magnus_graph_faults.specs.WeightedStepChecks.{sample_weights_fault, weight_fault}
use Rattle.graph_traj_samples.proofs.Sampled.{both-pass}
use Rattle.graph_traj_weights.proofs.kernel.sample_weights.Goals as goal

pub returns-then-value_pairs : goal.returns-then-value_pairs
unfolding weight_fault sample_weights_fault
returns-then-value_pairs c =
    let lists = c.args.lists in
    let f = c.args.fractions in
    let tested = c.value_pairs.ensures.0 (λ x. not (not_positive x)) (λ x y r called. search rules) in (
      both-pass not_positive Weight (λ x. not (not_positive x)) (λ x. not-true _) (length lists.start.now) f.first f.second
          lists.start.now lists.end.now tested c.if-value_pairs.true,
      c.value_pairs.ensures.1,
    )

pub returns-in_err-check_values : goal.returns-in_err-check_values
unfolding weight_fault sample_weights_fault next
returns-in_err-check_values c =
    let refused = c.in_err-check_values.ensures not_positive Weight (λ x r called. search rules) in
    (rw (← refused) (handed_on c.from_residual.ensures), c.value_pairs.ensures.1)

pub returns : goal.returns
unfolding weight_fault sample_weights_fault next
returns c =
    let accepted = c.in_ok-check_values.ensures not_positive Weight (λ x r called. search rules) in
    (rw (← accepted) (c.check_values-2.ensures not_positive Weight (λ x r called. search rules)), c.value_pairs.ensures.1)
