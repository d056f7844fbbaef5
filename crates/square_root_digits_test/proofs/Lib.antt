pub mod SignBit
pub mod Square
