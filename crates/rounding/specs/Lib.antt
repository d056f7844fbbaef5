pub mod SignOfZero
pub mod StepLength
