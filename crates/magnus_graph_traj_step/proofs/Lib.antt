pub mod RunStep
