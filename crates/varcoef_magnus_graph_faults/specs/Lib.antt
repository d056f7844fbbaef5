pub mod AcceptedWeightedStep
pub mod WeightedStepChecks
