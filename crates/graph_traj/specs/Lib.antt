pub mod Greatest
pub mod Lookup
pub mod LookupAnswer
