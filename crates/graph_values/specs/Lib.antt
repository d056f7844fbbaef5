pub mod ValueChecks
