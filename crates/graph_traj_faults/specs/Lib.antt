pub mod AcceptedRun
pub mod Each
pub mod RunChecks
