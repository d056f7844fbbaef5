pub mod Each
pub mod RunSound
