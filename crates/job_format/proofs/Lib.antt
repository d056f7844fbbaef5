pub mod Fields
pub mod Malformed
