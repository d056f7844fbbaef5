-- The definition: that its result is the nearest value of the format, and that no tie occurs.
pub mod NearestRoot
pub mod NoOverflow
pub mod NoTie
pub mod RoundedRoot
pub mod ValuesAround
-- The code: from bits to digits and back.
pub mod Agreement
pub mod Digits
pub mod Exponent
pub mod FromBits
pub mod FromDigits
pub mod Halving
pub mod Special
