pub mod Gershgorin
pub mod Less
pub mod GershgorinBound
