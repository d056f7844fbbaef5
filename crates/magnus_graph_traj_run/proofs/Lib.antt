pub mod StepAt
pub mod Cut
