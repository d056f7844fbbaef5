-- `varcoef_magnus_graph_checks::all_positive`: the answer so far is that of the weights that the walk has passed. Assumes nothing.
use Rattle.std.proofs.Common.{◌≡◌, not, take}
use Rattle.float.specs.All.{all}
use Rattle.magnus_graph_faults.specs.StepChecks.{not_positive}
use Rattle.varcoef_magnus_graph_checks.proofs.all_positive.Given as goal

abbrev pub invariant-loop-w : goal.invariant-loop-w
invariant-loop-w l = l.passed ≡ all (λ w. not (not_positive w)) (take l.w-index l.weights)
