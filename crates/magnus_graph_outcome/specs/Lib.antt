pub mod Omega4
pub mod StepOutcome
