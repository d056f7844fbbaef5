pub mod Chunks
pub mod Formed
pub mod Walks
pub mod WeightedPairs
