-- The sign theorem: over any commutative ring the formulas are the published ones.
pub mod Vectors
pub mod Sign
pub mod Sign6
pub mod Linear
pub mod Adjoint
pub mod Integers
pub mod Integers6
-- The constants of order 6.
pub mod Constants6
