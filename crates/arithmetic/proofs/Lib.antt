pub mod Tabulate
pub mod Product
pub mod UpToZero
pub mod Points
