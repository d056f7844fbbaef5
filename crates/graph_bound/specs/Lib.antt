pub mod Gershgorin
