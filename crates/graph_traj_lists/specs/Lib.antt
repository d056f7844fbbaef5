pub mod ListChecks
