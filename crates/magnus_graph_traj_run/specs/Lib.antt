pub mod StepAt
