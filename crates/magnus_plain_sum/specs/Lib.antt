pub mod PlainSum
pub mod Agree
pub mod Formed
pub mod FormedOmega6
pub mod Run
