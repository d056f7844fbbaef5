pub mod IntegerRoot
pub mod SquareRoot
pub mod Steps
