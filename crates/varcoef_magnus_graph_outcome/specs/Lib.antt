pub mod StepOutcome
pub mod WeightedOmega4
