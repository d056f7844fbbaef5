pub mod SampledSteps
pub mod WeightedRunSteps
