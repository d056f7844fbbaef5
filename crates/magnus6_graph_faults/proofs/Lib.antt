pub mod Step6Sound
