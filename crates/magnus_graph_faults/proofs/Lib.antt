pub mod Positive
pub mod StepSound
