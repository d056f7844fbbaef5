pub mod StepOutcome
