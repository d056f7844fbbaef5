pub mod All
pub mod Finite
