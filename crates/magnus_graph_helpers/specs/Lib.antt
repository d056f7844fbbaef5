pub mod Terms
pub mod Factors
