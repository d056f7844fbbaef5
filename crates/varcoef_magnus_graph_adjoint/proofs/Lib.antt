pub mod StepPlain
