pub mod Overwriting
pub mod Roots
