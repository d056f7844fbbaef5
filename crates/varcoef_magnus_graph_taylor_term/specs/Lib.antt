pub mod WeightedOmega4
