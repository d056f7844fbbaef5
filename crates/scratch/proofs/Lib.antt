pub mod Halves
pub mod Parts
pub mod Writing
