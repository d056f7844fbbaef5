-- `weighted_spectra` meets its contract: it forms the product of `weighted_bound`, from left to right. Assumes nothing.
use Rattle.std.proofs.Common.{refl}
use Rattle.varcoef_magnus_graph_faults.specs.WeightedStepChecks.{weighted_bound}
use Rattle.varcoef_magnus_graph_checks.proofs.weighted_spectra.Goals as goal

pub returns : goal.returns
unfolding weighted_bound
returns c = (refl, refl)
