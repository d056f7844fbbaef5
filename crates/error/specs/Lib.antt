pub mod Answer
pub mod Refusals
pub mod Checks
pub mod Lengths
