-- Demand 3: where the samples agree, the step is the plain sum.
pub mod Agree
pub mod Formed
pub mod FormedIsFinite
pub mod FormedZeros
pub mod PlainSum
pub mod PlainSum6
pub mod VanishingCommutator
pub mod PlainRun
