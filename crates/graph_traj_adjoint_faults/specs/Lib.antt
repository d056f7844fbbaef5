pub mod AcceptedAdjointRun
pub mod AdjointRunChecks
