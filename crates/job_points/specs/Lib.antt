pub mod ExampleJob
