pub mod Terms
pub mod Front
