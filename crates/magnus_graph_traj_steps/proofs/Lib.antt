pub mod Courses
pub mod StepsTaken
pub mod Walk
