pub mod RowEntries
pub mod Reach
