pub mod Terms
pub mod Turns
pub mod WeightRoots
pub mod Split
pub mod Kept
pub mod SampledStep
