pub mod JobFormat
pub mod Head
