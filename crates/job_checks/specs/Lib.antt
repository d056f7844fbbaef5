pub mod Map
pub mod Bits
