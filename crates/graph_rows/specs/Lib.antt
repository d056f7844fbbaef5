pub mod RowProduct
pub mod Product
