pub mod CountChecks
