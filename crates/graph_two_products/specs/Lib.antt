pub mod SharedPattern
