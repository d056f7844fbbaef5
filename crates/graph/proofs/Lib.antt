pub mod ProductOutcome
pub mod BoundAnswer
