pub mod Omega6Step
