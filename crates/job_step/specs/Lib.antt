pub mod JobOutcome
pub mod Stepped
