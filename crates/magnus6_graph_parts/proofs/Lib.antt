pub mod Omega6Walks
pub mod Omega6Parts
pub mod Samples
