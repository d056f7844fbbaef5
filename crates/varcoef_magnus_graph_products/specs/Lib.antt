pub mod WeightedProduct
