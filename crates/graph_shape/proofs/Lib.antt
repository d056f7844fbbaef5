pub mod First
pub mod Sound
pub mod Walk
pub mod RowStarts
