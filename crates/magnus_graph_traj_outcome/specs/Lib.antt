pub mod PlainSteps
pub mod RunOutcome
