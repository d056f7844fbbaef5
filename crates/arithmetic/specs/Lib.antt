pub mod Vector
pub mod Arithmetic
pub mod Product
pub mod SameList
