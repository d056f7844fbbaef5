pub mod First
pub mod Pattern
pub mod PatternChecks
pub mod Parts
