pub mod First
pub mod Sound
