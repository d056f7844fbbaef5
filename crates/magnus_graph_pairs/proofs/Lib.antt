pub mod Forming
pub mod Term
