pub mod Omega6Parts
pub mod WorkSlice
