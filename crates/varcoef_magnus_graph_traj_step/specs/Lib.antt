pub mod StepTaken
pub mod SignalScaled
