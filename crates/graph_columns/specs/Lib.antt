pub mod ColumnChecks
