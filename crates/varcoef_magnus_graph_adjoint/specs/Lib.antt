pub mod WeightedPlainSteps
pub mod WeightedRunOutcome
