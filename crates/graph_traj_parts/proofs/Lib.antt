pub mod TrajectorySound
