pub mod RunStepTaken
