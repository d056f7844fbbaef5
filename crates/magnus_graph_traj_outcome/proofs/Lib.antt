pub mod AcceptedRuns
pub mod RunOutcome
pub mod SampledFormat
pub mod StepPlain
