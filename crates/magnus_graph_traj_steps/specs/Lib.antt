pub mod RunSteps
pub mod StepsTaken
