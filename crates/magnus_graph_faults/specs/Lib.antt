pub mod AcceptedStep
pub mod StepChecks
