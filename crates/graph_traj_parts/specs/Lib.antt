pub mod Trajectory
pub mod TrajectoryChecks
