pub mod Breakpoints
pub mod LookupChecks
