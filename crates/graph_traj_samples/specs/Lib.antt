pub mod Sampled
pub mod Tests
