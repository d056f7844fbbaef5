pub mod Operators
pub mod OperatorArithmetic
pub mod Omega6
pub mod Coefficients
pub mod Ring
pub mod Published
