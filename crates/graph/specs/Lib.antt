pub mod BoundAnswer
pub mod ProductOutcome
