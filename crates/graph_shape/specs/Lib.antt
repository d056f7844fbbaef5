pub mod First
pub mod Rows
pub mod RowStarts
pub mod ShapeChecks
