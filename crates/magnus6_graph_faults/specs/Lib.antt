pub mod AcceptedStep6
pub mod Step6Checks
