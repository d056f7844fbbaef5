pub mod CountsExact
