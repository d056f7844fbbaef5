pub mod WeightedPairs
